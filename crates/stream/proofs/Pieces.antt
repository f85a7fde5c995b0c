-- A piece of a file that is fed part by part: what is still to be done is what the rest of it leads to.
use Prim.Native.Nat.{ℕ, ◌+◌, ◌*◌, ◌≤◌}
use mathlib.Core.Path.{◌≡◌, refl, sym, ap, ap₂, ◌∙◌}
use mathlib.Core.List.{List, [], ◌++◌}
use mathlib.Core.Bool.{Bool, true, false}
use native.Mathlib.Omega.{arith}
use lib.ListN.{length, drop, length-append}
use lib.Seq.{sets, length-take-le}
use Rattle.word.proofs.Stores.{sets_append, front_stored}
use Rattle.stream.specs.declared.run.Run.{Run}
use Rattle.stream.specs.declared.run.Told.{Told}
use Rattle.stream.specs.Run.{Step, told_of, line_room, Tells}
use Rattle.stream.specs.Feed.{after, written, passing, Counts, ran_of, out_of}
use Rattle.stream.proofs.promises.Cut.{cut_after, cut_written}

pub record Passed (r₀ : Run) (piece l₀ : List ℕ) (r : Run) (at : ℕ) (rest l : List ℕ) : Type 0 where
  pub run : after r₀ piece ≡ after r rest
  pub place : length (written r₀ piece) ≡ at + length (written r rest)
  pub holds : sets l₀ 0 (written r₀ piece) ≡ sets l at (written r rest)

pub passed_none : {r : Run} {piece l : List ℕ} → Passed r piece l r 0 piece l
passed_none = record { run = refl; place = omega arith; holds = refl }

-- one part more: its text stands after what was written before it
pub passed_more : {r₀ r : Run} {piece rest l₀ l l' : List ℕ} {at : ℕ} {s : Step} {t : Told} (w left : List ℕ) → rest ≡ w ++ left → passing r w ≡ s →
    Passed r₀ piece l₀ r at rest l → t ≡ told_of s → l' ≡ sets l at s.text → Passed r₀ piece l₀ t.run (at + t.len) left l'
passed_more {r₀} {r} {piece} {rest} {l₀} {l} {l'} {at} {s} {t} w left n f p e h =
    let a : after r rest ≡ after s.run left = ap (after r) n ∙ cut_after r w left ∙ ap (λ (x : Step). after x.run left) f in
    let q : written r rest ≡ s.text ++ written s.run left =
    ap (written r) n ∙ cut_written r w left ∙ ap (λ (x : Step). x.text ++ written x.run left) f in
    rw e
    (record {
      run = p.run ∙ a;
      place = p.place ∙ omega (arith, ap length q ∙ length-append s.text (written s.run left));
      holds = p.holds ∙ ap (sets l at) q ∙ sets_append l at s.text (written s.run left) ∙ ap (λ (x : List ℕ). sets x (at + length s.text) (written s.run left)) (sym h);
    })

-- the whole piece
pub passed_all : {r₀ r : Run} {piece l₀ l : List ℕ} {at : ℕ} → at ≤ length piece * line_room → Passed r₀ piece l₀ r at [] l →
    Tells (length piece * line_room) (passing r₀ piece) l₀ (record { run = r; len = at }) l
passed_all {r₀} {r} {piece} {l₀} {l} {at} f p = record {
  is = ap₂ (λ (u : Run) (n : ℕ). record { run = u; len = n }) (sym p.run) (omega (arith, p.place));
  holds = sym p.holds;
  few = f;
}

-- ---- the public functions: with room for what is written, and without

pub ran_short : {room : Bool} {l : List ℕ} (r : Run) (s : Step) → room ≡ false →
    (record { done = false; run = r; len = 0 } ≡ ran_of room r s) × ((l ≡ out_of room s.text l) × Counts 0 l)
ran_short r s e = rw e (refl, (refl, (omega arith, refl)))

pub ran_done : {room : Bool} {l₀ l : List ℕ} {n : ℕ} {t : Told} (r : Run) (s : Step) → room ≡ true → n ≤ length l₀ → Tells n s l₀ t l →
    (record { done = true; run = t.run; len = t.len } ≡ ran_of room r s) × ((l ≡ out_of room s.text l₀) × Counts t.len l)
ran_done {room} {l₀} {l} {n} {t} r s e h p =
    let m : length s.text ≡ t.len = sym (ap (λ (x : Told). x.len) p.is) in
    let e' : l ≡ s.text ++ drop (length s.text) l₀ = p.holds ∙ front_stored l₀ s.text (omega (arith, p.few)) in
    let k : t.len ≤ length l = rw e' (simp length-append (omega arith)) in
    let f : record { done = true; run = t.run; len = t.len } ≡ ran_of room r s = rw (e, p.is) refl in
    (f, (rw e e', (k, sym (length-take-le _ _ k))))
