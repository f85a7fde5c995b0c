-- The first such byte of a text: what stands before it and after it; and what a text begins with.
use Prim.Native.Nat.{ℕ, suc, ◌+◌, ◌-◌, ◌<◌, ◌≤◌}
use mathlib.Core.Path.{◌≡◌, refl, sym, ap, ap₂, ◌∙◌}
use mathlib.Core.Bool.{Bool, true, false, cond, not, ◌&&◌}
use mathlib.Core.List.{List, [], ◌∷◌, ◌++◌}
use native.Mathlib.Omega.{arith}
use borrow.Author.Tests.{eqb-true, eqb-false, eq-eqb, ne_eqb, not-true}
use lib.Dec.{eqb}
use lib.ListN.{length, take, drop}
use lib.Pointwise.{pointwise}
use lib.Seq.{take_at, drop-append-add}
use Rattle.whole.proofs.Truth.{both, and, never, chosen, by_test}
use Rattle.word.specs.End.{end_at, begins}
use Rattle.whole.proofs.Lists.{part_left}

module _ (byte : ℕ) where
  pub end_in : (s : List ℕ) → end_at byte s ≤ length s
  end_in [] = omega arith
  end_in (b ∷ s) = chosen (λ (n : ℕ). n ≤ suc (length s)) (eqb b byte) (λ _. omega arith) (λ _. omega (arith, end_in s))

  -- the part from behind it
  pub part_after : (s : List ℕ) (end : ℕ) → end ≡ end_at byte s → take (length s - (end + 1)) (drop (end + 1) s) ≡ drop (end_at byte s + 1) s
  part_after s end e = part_left s (end + 1) ∙ rw e

  -- a text in which there is one
  pub at_byte : (s : List ℕ) → end_at byte s < length s → s ≡ take (end_at byte s) s ++ (byte ∷ drop (end_at byte s + 1) s)
  at_byte [] h = absurd (omega arith)
  at_byte (b ∷ s) h = go (eqb b byte) refl h (at_byte s) where
    go : (t : Bool) → eqb b byte ≡ t → cond t 0 (suc (end_at byte s)) < suc (length s) →
        (end_at byte s < length s → s ≡ take (end_at byte s) s ++ (byte ∷ drop (end_at byte s + 1) s)) →
        b ∷ s ≡ take (cond t 0 (suc (end_at byte s))) (b ∷ s) ++ (byte ∷ drop (cond t 0 (suc (end_at byte s)) + 1) (b ∷ s))
    go true p k ih = ap (λ (x : ℕ). x ∷ s) (eqb-true b byte p)
    go false p k ih =
        let q : suc (end_at byte s) + 1 ≡ suc (end_at byte s + 1) = omega arith in
        rw q (ap (λ (x : List ℕ). b ∷ x) (ih (omega arith)))

  -- ---- bytes among which there is none

  abbrev pub without : List ℕ → Bool
  without [] = true
  without (b ∷ w) = not (eqb b byte) && without w

  pub without_both : (v w : List ℕ) → without v ≡ true → without w ≡ true → without (v ++ w) ≡ true
  without_both [] w p q = q
  without_both (b ∷ v) w p q = let t = both (not (eqb b byte)) (without v) p in and t.0 (without_both v w t.1 q)

  pub end_without : (w s : List ℕ) → without w ≡ true → end_at byte (w ++ (byte ∷ s)) ≡ length w
  end_without [] s e = rw (eq-eqb byte byte refl)
  end_without (b ∷ w) s e =
      let t = both (not (eqb b byte)) (without w) e in
      rw (not-true (eqb b byte) t.0) (ap suc (end_without w s t.1))

  -- what stands before the first one, and after it
  pub before_first : (w s : List ℕ) → without w ≡ true → take (end_at byte (w ++ (byte ∷ s))) (w ++ (byte ∷ s)) ≡ w
  before_first w s e = take_at w (byte ∷ s) (end_at byte (w ++ (byte ∷ s))) (sym (end_without w s e))

  pub after_first : (w s : List ℕ) → without w ≡ true → drop (end_at byte (w ++ (byte ∷ s)) + 1) (w ++ (byte ∷ s)) ≡ s
  after_first w s e = rw (end_without w s e) (drop-append-add w (byte ∷ s) 1)

-- ---- a text that begins with a key

pub begins_self : (k w : List ℕ) → begins k (k ++ w) ≡ true
begins_self [] w = refl
begins_self (b ∷ k) w = and (eq-eqb b b refl) (begins_self k w)

pub begins_split : (k l : List ℕ) → begins k l ≡ true → l ≡ k ++ drop (length k) l
begins_split [] l e = refl
begins_split (x ∷ k) [] e = never e
begins_split (x ∷ k) (b ∷ l) e =
    let t = both (eqb b x) (begins k l) e in
    ap (λ (y : ℕ). y ∷ l) (eqb-true b x t.0) ∙ ap (λ (m : List ℕ). x ∷ m) (begins_split k l t.1)

-- a line that begins with a key is at least as long
pub begun_long : (k l : List ℕ) → begins k l ≡ true → length k ≤ length l
begun_long [] l e = omega arith
begun_long (x ∷ k) [] e = never e
begun_long (x ∷ k) (b ∷ l) e = omega (arith, begun_long k l (both (eqb b x) (begins k l) e).1)

-- what std's tests for a text's beginning say
eqb_turned : (a b : ℕ) → eqb a b ≡ eqb b a
eqb_turned a b = by_test (eqb b a) (λ e. eq-eqb a b (sym (eqb-true b a e)) ∙ sym e) (λ e. ne_eqb a b (λ q. absurd (eqb-false b a e (sym q))) ∙ sym e)

pub starts_begins : (k l : List ℕ) → pointwise eqb k (take (length k) l) ≡ begins k l
starts_begins [] l = refl
starts_begins (x ∷ k) [] = refl
starts_begins (x ∷ k) (b ∷ l) = ap₂ (λ (t u : Bool). t && u) (eqb_turned x b) (starts_begins k l)

pub front_begins : (k l : List ℕ) → pointwise eqb (take (length k) l) k ≡ begins k l
front_begins [] l = refl
front_begins (x ∷ k) [] = refl
front_begins (x ∷ k) (b ∷ l) = ap (λ (t : Bool). eqb b x && t) (front_begins k l)
