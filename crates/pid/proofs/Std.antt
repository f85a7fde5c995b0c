-- What std's `min`, `max` and `clamp` ensure, in the words of specs/Sample.antt.
use mathlib.Core.Path.{◌≡◌}
use native.Mathlib.Omega.{arith}
use lib.IntN.{ℤ}
use lib.Signed.{◌≤ℤ◌}
use Rattle.std.proofs.lemmas.Int.{ints}
use Rattle.std.specs.Int.{int_min, int_max}
use Rattle.whole.proofs.Num.{Num, num_via}
use Rattle.pid.specs.Sample.{lesser, greater, limited}
use Rattle.pid.proofs.Arithmetic.{num_lesser, num_greater, num_limited}

pub min_is : (a b : ℤ) → int_min a b ≡ lesser a b
unfolding lesser
min_is a b = grind (arith, ints)

pub max_is : (a b : ℤ) → int_max a b ≡ greater a b
unfolding greater
max_is a b = grind (arith, ints)

pub clamp_is : (x lo hi : ℤ) → lo ≤ℤ hi → int_max lo (int_min x hi) ≡ limited x lo hi
unfolding limited
clamp_is x lo hi h = grind (arith, ints)

abbrev pub num_min : {a b : ℤ} → Num a → Num b → Num (int_min a b)
num_min {a} {b} x y = num_via (min_is a b) (num_lesser x y)

abbrev pub num_max : {a b : ℤ} → Num a → Num b → Num (int_max a b)
num_max {a} {b} x y = num_via (max_is a b) (num_greater x y)

abbrev pub num_clamp : {x lo hi r : ℤ} → lo ≤ℤ r → r ≤ℤ hi → Num x → Num lo → Num hi → Num (int_max lo (int_min x hi))
num_clamp {x} {lo} {hi} l h a b c = num_via (clamp_is x lo hi (omega (arith, ints))) (num_limited a b c)

pub ruleset bounds = (num_min, num_max)
