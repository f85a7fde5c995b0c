-- The bytes of a line, all at once: what they do one by one.
use Prim.Native.Nat.{ℕ, ◌+◌, ◌<◌, ◌≤◌}
use mathlib.Core.Path.{◌≡◌, refl, sym, ap, ap₂, ◌∙◌}
use mathlib.Core.Bool.{true, false, not, cond}
use mathlib.Core.List.{List, [], ◌∷◌, ◌++◌, append-nil}
use native.Mathlib.Nat.{zero-add}
use native.Mathlib.Numerals.{add-one}
use native.Mathlib.Omega.{arith}
use borrow.Author.Tests.{lt-ltb, le-ltb, ltb-true, ltb-false, not-true}
use lib.Dec.{eqb, ltb}
use lib.ListN.{length}
use Rattle.whole.proofs.Truth.{both, by_test, cond_yes, cond_no}
use Rattle.word.specs.End.{feed}
use Rattle.word.proofs.Stores.{text_part}
use Rattle.answer.specs.Verdict.{Verdict}
use Rattle.answer.specs.Judge.{judged_by}
use Rattle.stream.specs.declared.run.Run.{Run}
use Rattle.stream.specs.Part.{line_most}
use Rattle.stream.specs.Run.{Step, refused_line, over_of, refusing, word_of, line_step, with_part, kept_of, keeping}
use Rattle.stream.specs.Feed.{judging, idle, byte_of, after, written, passing, plain, grown_of, line_of}
use Rattle.stream.proofs.promises.Cut.{cut_after, cut_written}

-- ---- one byte

byte_over : (r : Run) (b : ℕ) → r.ended ≡ true → byte_of r b ≡ idle r
unfolding byte_of
byte_over r b e = cond_yes _ _ e

module _ (r : Run) (e : r.ended ≡ false) where
  byte_feed : byte_of r feed ≡ judging r
  unfolding byte_of
  byte_feed = cond_no _ _ e

  byte_kept : (b : ℕ) → eqb b feed ≡ false → r.part.len < line_most → byte_of r b ≡ idle (kept_of r b)
  unfolding byte_of keeping
  byte_kept b f h = cond_no _ _ e ∙ cond_no _ _ f ∙ cond_yes _ _ (lt-ltb r.part.len line_most h)

  byte_long : (b : ℕ) → eqb b feed ≡ false → line_most ≤ r.part.len → byte_of r b ≡ refusing r 14
  unfolding byte_of keeping
  byte_long b f h = cond_no _ _ e ∙ cond_no _ _ f ∙ cond_no _ _ (le-ltb r.part.len line_most h)

-- ---- a step, and bytes after it

abbrev then : List ℕ → Step → Step
then s t = record { run = after t.run s; text = t.text ++ written t.run s }

then_none : (t : Step) → then [] t ≡ t
then_none t = ap (λ (x : List ℕ). record { run = t.run; text = x }) (append-nil t.text)

passing_cut : (r : Run) (a b : List ℕ) → passing r (a ++ b) ≡ then b (passing r a)
passing_cut r a b = ap₂ (λ (u : Run) (x : List ℕ). record { run = u; text = x }) (cut_after r a b) (cut_written r a b)

-- a run that has ended
pub over_passing : (r : Run) (s : List ℕ) → r.ended ≡ true → passing r s ≡ idle r
over_passing r [] e = refl
over_passing r (b ∷ s) e = ap (then s) (byte_over r b e) ∙ over_passing r s e

refused_then : (r : Run) (code : ℕ) (s : List ℕ) → then s (refusing r code) ≡ refusing r code
refused_then r code s =
    ap (λ (x : Step). record { run = x.run; text = refused_line code r.line ++ x.text }) (over_passing (over_of r) s refl)
    ∙ then_none (refusing r code)

-- ---- the line under way

grown_none : (r : Run) → r ≡ grown_of r []
grown_none r = ap (λ (n : ℕ). with_part r (record { bytes = r.part.bytes; len = n })) (omega arith)

grown_more : (r : Run) (b : ℕ) (w : List ℕ) → grown_of (kept_of r b) w ≡ grown_of r (b ∷ w)
grown_more r b w =
    ap₂ (λ (bytes : List ℕ) (n : ℕ). with_part r (record { bytes = bytes; len = n })) (rw add-one) (omega arith)

-- what a line leads to does not depend on the bytes that are kept of it
grown_step : (r : Run) (w : List ℕ) (v : Verdict) → line_step (grown_of r w) v ≡ line_step r v
grown_step r w v = refl

-- of a line that lies whole in a piece nothing was carried
pub grown_word : (r : Run) (w : List ℕ) → r.part.len ≡ 0 → length r.part.bytes ≡ line_most → length w ≤ line_most → word_of (grown_of r w) ≡ w
grown_word r w e k h = rw e (text_part r.part.bytes w (0 + length w) (zero-add (length w)) (omega arith))

-- ---- its bytes, while there is room, and past it

short_line : (r : Run) (w : List ℕ) → r.ended ≡ false → plain w ≡ true → r.part.len + length w ≤ line_most → passing r w ≡ idle (grown_of r w)
short_line r [] e p h = ap idle (grown_none r)
short_line r (b ∷ w) e p h =
    let q = both (not (eqb b feed)) (plain w) p in
    ap (then w) (byte_kept r e b (not-true (eqb b feed) q.0) (omega arith))
    ∙ short_line (kept_of r b) w e q.1 (omega arith) ∙ ap idle (grown_more r b w)

long_line : (r : Run) (w : List ℕ) → r.ended ≡ false → plain w ≡ true → 0 < length w → line_most < r.part.len + length w → passing r w ≡ refusing r 14
long_line r [] e p h k = absurd (omega arith)
long_line r (b ∷ w) e p h k =
    let q = both (not (eqb b feed)) (plain w) p in
    let f = not-true (eqb b feed) q.0 in
    by_test (ltb r.part.len line_most)
    (λ t. let l = ltb-true r.part.len line_most t in
    ap (then w) (byte_kept r e b f l) ∙ long_line (kept_of r b) w e q.1 (omega arith) (omega arith))
    (λ t. ap (then w) (byte_long r e b f (ltb-false r.part.len line_most t)) ∙ refused_then r 14 w)

-- ---- the next bytes of a line, without and with its line feed

pub part_passing : (r : Run) (w : List ℕ) → plain w ≡ true → 0 < length w → passing r w ≡ line_of r w false
unfolding line_of
part_passing r w p h =
    by_test r.ended (λ e. over_passing r w e ∙ sym (cond_yes _ _ e))
    (λ e. by_test (ltb line_most (r.part.len + length w))
    (λ t. long_line r w e p h (ltb-true line_most (r.part.len + length w) t) ∙ sym (cond_no _ _ e ∙ cond_yes _ _ t))
    (λ t. short_line r w e p (ltb-false line_most (r.part.len + length w) t) ∙ sym (cond_no _ _ e ∙ cond_no _ _ t)))

-- a line feed that comes next
feed_next : (r : Run) → r.ended ≡ false → then [] (byte_of r feed) ≡ judging r
feed_next r e = ap (then []) (byte_feed r e) ∙ then_none (judging r)

line_going : (r : Run) (w : List ℕ) → r.ended ≡ false → plain w ≡ true → passing r (w ++ (feed ∷ [])) ≡ judging (grown_of r w)
unfolding judging
line_going r [] e p = feed_next r e ∙ ap judging (grown_none r)
line_going r (b ∷ w) e p =
    let n = r.part.len + length (b ∷ w) in
    passing_cut r (b ∷ w) (feed ∷ [])
    ∙ by_test (ltb line_most n)
    (λ t. ap (then (feed ∷ [])) (long_line r (b ∷ w) e p (omega arith) (ltb-true line_most n t)) ∙ refused_then r 14 (feed ∷ []) ∙ sym (cond_yes _ _ t))
    (λ t. ap (then (feed ∷ [])) (short_line r (b ∷ w) e p (ltb-false line_most n t)) ∙ feed_next (grown_of r (b ∷ w)) e)

pub line_passing : (r : Run) (w : List ℕ) → plain w ≡ true → passing r (w ++ (feed ∷ [])) ≡ line_of r w true
unfolding line_of judging
line_passing r w p =
    by_test r.ended (λ e. over_passing r (w ++ (feed ∷ [])) e ∙ sym (cond_yes _ _ e))
    (λ e. line_going r w e p
    ∙ ap (cond (ltb line_most (r.part.len + length w)) (refusing r 14)) (grown_step r w (judged_by r.lines r.state (word_of (grown_of r w))))
    ∙ sym (cond_no _ _ e))
