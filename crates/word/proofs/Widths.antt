-- How many bytes a decimal has.
use Prim.Native.Nat.{ℕ, zero, suc, ◌+◌, ◌/◌, ◌%◌, ◌≤◌, max}
use mathlib.Core.Path.{◌≡◌, refl, ap}
use mathlib.Core.Bool.{Bool, true, false, cond}
use mathlib.Core.List.{[], ◌∷◌, ◌++◌}
use native.Mathlib.Omega.{arith}
use borrow.Author.Tests.{eqb-true, eqb-false, leb-true}
use lib.Dec.{eqb}
use lib.IntN.{ℤ, pos, negsuc}
use lib.ListN.{length, length-append}
use lib.Signed.{le_z}
use Rattle.whole.specs.Numbers.{inside}
use Rattle.whole.proofs.Truth.{never, both}
use Rattle.word.specs.Decimal.{digits, shown, decimal}
use Rattle.word.proofs.Decimals.{fuel, shown_last}

-- ---- a larger number has at least as many digits

digits_mono : (f m n : ℕ) → m ≤ n → length (digits f m) ≤ length (digits f n)
digits_mono zero m n h = omega arith
digits_mono (suc f) m n h = go (eqb m 0) refl (eqb n 0) refl (digits_mono f (m / 10) (n / 10) (omega arith)) where
  go : (t : Bool) → eqb m 0 ≡ t → (u : Bool) → eqb n 0 ≡ u → length (digits f (m / 10)) ≤ length (digits f (n / 10)) →
      length (cond t [] (digits f (m / 10) ++ ((48 + m % 10) ∷ []))) ≤ length (cond u [] (digits f (n / 10) ++ ((48 + n % 10) ∷ [])))
  go true p u q ih = omega arith
  go false p true q ih = absurd (let a = eqb-false m 0 p in let b = eqb-true n 0 q in let x : ⊥ = omega arith in x)
  go false p false q ih = simp length-append (omega arith)

shown_mono : (m n : ℕ) → m ≤ n → length (shown m) ≤ length (shown n)
shown_mono m n h =
    let e = ap length (fuel (m / 10) (n / 10) (m / 10) (omega arith) (omega arith)) in
    let k = digits_mono (n / 10) (m / 10) (n / 10) (omega arith) in
    rw (shown_last m, shown_last n) (simp length-append (omega arith))

-- a value has at most as many bytes as one of its range's ends
pub width : (a b z : ℤ) → inside a b z ≡ true → length (decimal z) ≤ max (length (decimal a)) (length (decimal b))
width a (pos m) (pos n) e =
    let h = shown_mono n m (leb-true n m (both (le_z a (pos n)) (le_z (pos n) (pos m)) e).1) in
    omega arith
width a (negsuc m) (pos n) e = never (both (le_z a (pos n)) false e).1
width (pos m) b (negsuc n) e = never (both false (le_z (negsuc n) b) e).0
width (negsuc m) b (negsuc n) e =
    let k = leb-true n m (both (le_z (negsuc m) (negsuc n)) (le_z (negsuc n) b) e).0 in
    let h = shown_mono (suc n) (suc m) (omega arith) in
    omega arith
