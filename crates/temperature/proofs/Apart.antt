-- How far two temperatures lie from each other.
use Prim.Native.Nat.{min}
use mathlib.Core.Path.{◌≡◌, sym}
use mathlib.Core.Bool.{true, false, ◌||◌}
use native.Mathlib.Omega.{arith}
use lib.IntN.{ℤ, pos, negsuc, neg_ℤ, ◌-ℤ◌}
use lib.Signed.{lt_z}
use Rattle.whole.specs.Numbers.{plus, minus, size, Within}
use Rattle.whole.proofs.Truth.{by_test}
use Rattle.whole.proofs.Lin.{Lin, at, lin_add, lin_neg}
use Rattle.settings.specs.Table.{farthest, in_reach}
use Rattle.temperature.specs.Temperature.{further}
use Rattle.whole.proofs.Parts.{zs, inside_yes, lt_yes, lt_no, yes_lt, no_lt, plus_neg, minus_neg}

one_part : (d : ℤ) → min (plus d) (minus d) ≡ 0
one_part (pos n) = omega arith
one_part (negsuc n) = omega arith

-- no two temperatures are further apart than 2,000,000
pub never_far : (raw pv : ℤ) → in_reach raw ≡ true → in_reach pv ≡ true → further (pos farthest) raw pv ≡ false
never_far raw pv r p =
    let R = at raw in
    let P = at pv in
    let D : Lin (pv -ℤ raw) = lin_add (at pv) (lin_neg (at raw)) in
    let a = inside_yes (negsuc 999999) (pos 1000000) raw r in
    let b = inside_yes (negsuc 999999) (pos 1000000) pv p in
    let w : Within farthest (pv -ℤ raw) = omega (arith, zs) in
    no_lt (pos farthest) (pos (size (pv -ℤ raw))) (omega (arith, w.within))

-- a difference is larger than j, its sign left aside, where it is or its opposite is
pub either_way : (j d : ℤ) → (lt_z j d || lt_z j (neg_ℤ d)) ≡ lt_z j (pos (size d))
either_way j d = by_test (lt_z j d)
    (λ e. rw e (sym (yes_lt j (pos (size d)) (omega (arith, lt_yes j d e)))))
    (λ e. by_test (lt_z j (neg_ℤ d))
    (λ f. rw (e, f) (sym (yes_lt j (pos (size d)) (omega (arith, lt_yes j (neg_ℤ d) f, plus_neg d, minus_neg d)))))
    (λ f. rw (e, f) (sym (no_lt j (pos (size d)) (omega (arith, lt_no j d e, lt_no j (neg_ℤ d) f, plus_neg d, minus_neg d, one_part d))))))
