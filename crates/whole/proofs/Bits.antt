-- Signed values and the bits that the machine holds of them.
use mathlib.Core.Path.{◌≡◌, refl, ap, sym, ◌∙◌}
use mathlib.Core.List.{List, [], ◌∷◌}
use Prim.Native.Nat.{ℕ, zero, suc, ◌-◌, ◌^◌, ◌<◌}
use borrow.Author.Tests.{eqb-true, eqb-false}
use denote.Array.{each}
use denote.Shadow.{shadow}
use denote.Signed.{SInt}
use native.Mathlib.Omega.{arith}
use lib.Dec.{T, eqb}
use lib.Pow.{pow_pos}
use lib.IntN.{ℤ, pos, negsuc, neg_ℤ, nat_abs}
use lib.ListN.{get_or}
use lib.Signed.{mag, non_neg, ◌≤ℤ◌}
use mir.Syntax.{Width, w32, w64}
use mir.Val.{Val, Fits, SFits, hbits, to_z, of_z}
use mir.Facts.{to_z-of_z}
use Rattle.whole.specs.Numbers.{plus, eq_z}
use Rattle.whole.proofs.Truth.{by_test}
use Rattle.whole.proofs.Parts.{yes_eq_z, no_eq_z}

-- `==` compares bits: two values that fit are the same exactly where their bits are
pub same_bits : (w : Width) (a b : ℤ) → SFits w a → SFits w b → eqb (of_z w a) (of_z w b) ≡ eq_z a b
same_bits w a b f g =
    by_test (eqb (of_z w a) (of_z w b))
    (λ e. e ∙ sym (yes_eq_z a b (sym (to_z-of_z f) ∙ ap (to_z w) (eqb-true (of_z w a) (of_z w b) e) ∙ to_z-of_z g)))
    (λ e. e ∙ sym (no_eq_z a b (λ q. eqb-false (of_z w a) (of_z w b) e (ap (of_z w) q))))

-- what the machine reads back from a result's bits is the result
pub back : (w : Width) (r : ℤ) → mag r < 2 ^ hbits w → to_z w (of_z w r) ≡ r
back w r f = to_z-of_z {w = w} {z = r} (record { sfits = f })

-- a number of 32 bits that a call made one of 64
pub widened : {x : ℤ} (r : ℤ) → SFits w32 x → mag r < 2 ^ 63 → r ≡ to_z w32 (of_z w32 x) → to_z w64 (of_z w64 r) ≡ x
widened r f ok e = back w64 r ok ∙ e ∙ to_z-of_z f

-- a list that the machine holds, element by element
pub cons_back : {w : Width} {z : ℤ} {vs ws : List ℤ} → SFits w z → vs ≡ ws → to_z w (of_z w z) ∷ vs ≡ z ∷ ws
cons_back h e = rw (to_z-of_z h, e)

-- an element of an array or a slice fits its type, and so does the 0 past its end
pub elem_fits : (w : Width) (xs : List ℤ) (us : List Val) (i : ℕ) → shadow (each ℤ (SInt w).own_val xs us) → SFits w (get_or xs i (pos 0))
elem_fits w [] us i p = record { sfits = pow_pos (hbits w) }
elem_fits w (x ∷ xs) [] i p = absurd p
elem_fits w (x ∷ xs) (u ∷ us) zero p = record { sfits = p.0.1 }
elem_fits w (x ∷ xs) (u ∷ us) (suc i) p = elem_fits w xs us i p.1

-- a value has an opposite of its type, unless it is the least of it
pub fits_neg : (w : Width) (z : ℤ) → SFits w z → (z ≡ negsuc (2 ^ hbits w - 1) → ⊥) → SFits w (neg_ℤ z)
fits_neg w (pos zero) f g = f
fits_neg w (pos (suc n)) f g = let h = f.sfits in record { sfits = omega arith }
fits_neg w (negsuc n) f g =
    let h = f.sfits in
    by_test (eqb n (2 ^ hbits w - 1))
    (λ e. absurd (g (ap negsuc (eqb-true n (2 ^ hbits w - 1) e))))
    (λ e. record { sfits = omega (arith, eqb-false n (2 ^ hbits w - 1) e) })

-- a number that is not negative is cast to one without a sign
pub cast_up : (z : ℤ) → plus z < 2 ^ 64 → pos 0 ≤ℤ z → T (non_neg z) × Fits w64 (nat_abs z)
cast_up (pos n) b h = (tt, record { fits = b })
cast_up (negsuc n) b h = absurd h.le

pub abs_up : (z : ℤ) → pos 0 ≤ℤ z → nat_abs z ≡ plus z
abs_up (pos n) h = refl
abs_up (negsuc n) h = absurd h.le
