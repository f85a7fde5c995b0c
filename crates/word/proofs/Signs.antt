-- A signed number, its sign and its magnitude.
use Prim.Native.Nat.{zero, suc}
use mathlib.Core.Path.{◌≡◌, refl, sym}
use mathlib.Core.Bool.{true, false}
use mathlib.Core.List.{◌∷◌}
use native.Mathlib.Omega.{arith}
use borrow.Author.Tests.{ltb-true}
use lib.Dec.{T}
use lib.IntN.{ℤ, pos, negsuc, neg_ℤ, ◌-ℤ◌, nat_abs}
use lib.Signed.{lt_z, non_neg, nat_abs-le}
use mir.Syntax.{w32, w64}
use mir.Val.{Fits, SFits, to_z, of_z}
use Rattle.whole.proofs.Truth.{never}
use Rattle.whole.proofs.Num.{Num, num_i32, num_minus, num_back}
use Rattle.word.specs.Decimal.{shown, decimal}

pub abs_neg : (z : ℤ) → nat_abs (neg_ℤ z) ≡ nat_abs z
abs_neg (pos zero) = refl
abs_neg (pos (suc n)) = refl
abs_neg (negsuc n) = refl

pub abs_fits : (z : ℤ) → SFits w32 z → Fits w32 (nat_abs z)
abs_fits z f = let h = nat_abs-le z f.sfits in record { fits = omega arith }

pub not_negative : (z : ℤ) → lt_z z (pos 0) ≡ false → T (non_neg z)
not_negative (pos n) e = tt
not_negative (negsuc n) e = never (sym e)

pub turned_positive : (z : ℤ) → lt_z z (pos 0) ≡ true → T (non_neg (neg_ℤ z))
turned_positive (pos n) e = absurd (let h = ltb-true n 0 e in omega arith)
turned_positive (negsuc n) e = tt

-- an i32 as an i64, and with its sign turned
abbrev pub widened : (z : ℤ) → SFits w32 z → Num (to_z w64 (of_z w64 (to_z w32 (of_z w32 z))))
widened z f = num_back (num_i32 f)

abbrev pub turned_wide : (z : ℤ) → SFits w32 z → Num (pos 0 -ℤ to_z w64 (of_z w64 (to_z w32 (of_z w32 z))))
turned_wide z f = num_minus (widened z f)

-- the minus that a decimal has
pub decimal_neg : (z : ℤ) → lt_z z (pos 0) ≡ true → decimal z ≡ 45 ∷ shown (nat_abs z)
decimal_neg (pos n) e = absurd (let h = ltb-true n 0 e in omega arith)
decimal_neg (negsuc n) e = refl

pub decimal_pos : (z : ℤ) → lt_z z (pos 0) ≡ false → decimal z ≡ shown (nat_abs z)
decimal_pos (pos n) e = refl
decimal_pos (negsuc n) e = never (sym e)
