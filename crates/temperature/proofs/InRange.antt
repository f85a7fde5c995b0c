-- What `contains` answers of a range of numbers that has both its ends.
use mathlib.Core.Path.{◌≡◌}
use mathlib.Core.Bool.{false}
use native.Mathlib.Omega.{arith}
use lib.IntN.{ℤ}
use lib.Signed.{le_z}
use Rattle.std.proofs.Common.{Some}
use Rattle.std.proofs.lemmas.Int.{ints}
use Rattle.std.specs.Ordering.{int_cmp, partial_le}
use Rattle.std.specs.declared.ops.RangeInclusive.{RangeInclusive}
use Rattle.std.specs.Range.{range_inclusive_start, range_inclusive_end, range_inclusive_exhausted, range_inclusive_contains}
use Rattle.whole.specs.Numbers.{inside}

le_is : (a b : ℤ) → partial_le (λ x y. Some (int_cmp x y)) a b ≡ le_z a b
le_is a b = grind (arith, ints)

pub contains_is : {s : RangeInclusive ℤ} {a b : ℤ} (x : ℤ) → range_inclusive_start s ≡ a → range_inclusive_end s ≡ b → range_inclusive_exhausted s ≡ false →
    range_inclusive_contains (λ x y. Some (int_cmp x y)) s x ≡ inside a b x
contains_is {s} {a} {b} x e f g = rw (g, e, f, le_is a x, le_is x b)
