-- Laws of what the writer answers and leaves.
use Prim.Native.Nat.{ℕ, zero, suc, ◌+◌, ◌<◌, ◌≤◌}
use mathlib.Core.Path.{◌≡◌, refl}
use mathlib.Core.Bool.{true, cond}
use mathlib.Core.List.{List, [], ◌∷◌, ◌++◌}
use native.Mathlib.Omega.{arith}
use borrow.Author.Tests.{lt-ltb, le-ltb, ltb-false, eq-eqb, ne_eqb}
use lib.Dec.{ltb, eqb}
use lib.IntN.{ℤ}
use lib.ListN.{length, drop, length-append, length-take}
use lib.Seq.{sets}
use mir.Syntax.{w32}
use mir.Val.{SFits}
use Rattle.whole.proofs.Truth.{zero_if, zero_else, zero_then}
use Rattle.std.specs.Prelude.{Result, Ok, Err}
use Rattle.refusal.specs.declared.Refusal.{Refusal}
use Rattle.refusal.specs.declared.Refusal.TheVariants.{ShortBuffer}
use Rattle.refusal.specs.Refusal.{code_for}
use Rattle.refusal.proofs.promises.Codes.{refused_not_0}
use Rattle.settings.specs.declared.table.Row.{Row}
use Rattle.settings.specs.declared.Settings.{Settings}
use Rattle.settings.specs.Table.{longest_key, sets as every}
use Rattle.settings.specs.Settings.{in_table, ordered, settings_refusal}
use Rattle.word.specs.Decimal.{decimal_room}
use Rattle.word.specs.End.{feed}
use Rattle.word.proofs.Shows.{decimal_room_lem}
use Rattle.word.proofs.Stores.{sets_append}
use Rattle.writer.specs.Lines.{line_of, Headed, Gained, text_for, text_of, longest_for}
use Rattle.writer.specs.Writer.{written_told, write_code, written_of, buffer_after}
use Rattle.writer.proofs.Longest.{text_long}

-- ---- a line

-- a line of the settings is a key, a decimal and a line feed
pub line_short : (r : Row) (z : ℤ) → r.len ≤ longest_key → SFits w32 z → length (line_of r z) ≤ longest_key + decimal_room + 1
line_short r z h f = simp (length-append, length-take) (omega (arith, decimal_room_lem z f))

-- a line, put part by part
pub line_stored : {l₁ l₂ l₃ : List ℕ} {start end : ℕ} (l₀ : List ℕ) (at : ℕ) (key word : List ℕ) →
    l₁ ≡ sets l₀ at key → l₂ ≡ sets l₁ start word → l₃ ≡ sets l₂ end (feed ∷ []) →
    start ≡ at + length key → end ≡ at + length key + length word → l₃ ≡ sets l₀ at (key ++ (word ++ (feed ∷ [])))
line_stored {l₁} {l₂} {l₃} {start} {end} l₀ at key word p q r f g =
    cc (sets_append l₀ at key (word ++ (feed ∷ [])), sets_append (sets l₀ at key) (at + length key) word (feed ∷ []))

-- ---- what the writer answers and leaves

module _ (s : Settings) (buffer : List ℕ) where
  -- what the writer answers, and what the buffer then holds
  pub record Leaves (answer : Result ℕ Refusal) (after : List ℕ) : Type 0 where
    pub says : written_told answer ≡ written_of s (length buffer)
    pub holds : after ≡ buffer_after s buffer

  refuses : (r : Refusal) → write_code s (length buffer) ≡ code_for r → Leaves (Err r) buffer
  unfolding written_of buffer_after
  refuses r e =
      let f = ne_eqb (code_for r) 0 (refused_not_0 r) in
      record { says = rw (e, f); holds = rw (e, f) }

  pub settings_refused : (r : Refusal) → code_for r ≡ settings_refusal s → Leaves (Err r) buffer
  unfolding write_code
  settings_refused r e = refuses r (rw (← e, ne_eqb (code_for r) 0 (refused_not_0 r)))

  pub too_short : settings_refusal s ≡ 0 → length buffer < length (text_of s) → Leaves (Err ShortBuffer) buffer
  unfolding write_code
  too_short e h = refuses ShortBuffer (rw (eq-eqb (settings_refusal s) 0 e, lt-ltb (length buffer) (length (text_of s)) h))

  pub fits_in : settings_refusal s ≡ 0 → length (text_of s) ≤ length buffer →
      Leaves (Ok (length (text_of s))) (text_of s ++ drop (length (text_of s)) buffer)
  unfolding write_code written_of buffer_after
  fits_in e h =
      let c : write_code s (length buffer) ≡ 0 = rw (eq-eqb (settings_refusal s) 0 e, le-ltb (length buffer) (length (text_of s)) h) in
      record { says = rw c; holds = rw c }

-- settings that nothing is wrong with have a text of at most so many bytes
pub record Sound (s : Settings) : Type 0 where
  pub within : in_table s ≡ true
  pub order : ordered s ≡ true

pub sound : (s : Settings) → settings_refusal s ≡ 0 → Sound s
sound s e =
    let t = zero_if (in_table s) (cond (ordered s) 0 16) 10 e in
    record { within = t.0; order = zero_then (ordered s) 15 t.1 }

pub sound_long : (h n : ℕ) (s : Settings) → Headed h → Gained n → length s.gains ≡ every → settings_refusal s ≡ 0 → length (text_for h n s) ≤ longest_for h n
sound_long h n s a b g e = let t = sound s e in text_long h n s a b g t.within t.order

-- ---- a code that is 0: nothing is wrong with the settings, and the text fits
pub record Wrote (s : Settings) (buffer : List ℕ) : Type 0 where
  pub right : settings_refusal s ≡ 0
  pub fit : length (text_of s) ≤ length buffer

-- a code that is passed on where it is not 0
passed : (k n : ℕ) → cond (eqb k 0) n k ≡ 0 → (k ≡ 0) × (n ≡ 0)
passed zero n e = (refl, e)
passed (suc k) n e = absurd (let q : suc k ≡ 0 = rw (ne_eqb (suc k) 0 (λ z. omega arith)) at e in omega arith)

pub wrote : (s : Settings) (buffer : List ℕ) → (written_of s (length buffer)).code ≡ 0 → Wrote s buffer
unfolding written_of write_code
wrote s buffer e =
    let p = passed (settings_refusal s) (cond (ltb (length buffer) (length (text_of s))) 18 0) e in
    let b = zero_else (ltb (length buffer) (length (text_of s))) 17 0 p.1 in
    record { right = p.0; fit = ltb-false (length buffer) (length (text_of s)) b.0 }

-- a code that is not 0: the answer's length is 0, and the buffer is as it was
pub wrote_nothing : (s : Settings) (buffer : List ℕ) → ((written_of s (length buffer)).code ≡ 0 → ⊥) →
    ((written_of s (length buffer)).len ≡ 0) × (buffer_after s buffer ≡ buffer)
unfolding written_of buffer_after
wrote_nothing s buffer f =
    let e = ne_eqb (write_code s (length buffer)) 0 f in
    (rw e, rw e)
