use Prim.Native.Nat.{ℕ, ◌+◌, ◌/◌, ◌<◌}
use mathlib.Core.Path.{◌≡◌, refl, ap, ◌∙◌}
use native.Mathlib.Omega.{arith}
use lib.IntN.{ℤ, pos, neg_ℤ, ◌-ℤ◌}
use lib.Signed.{◌≤ℤ◌, ◌<ℤ◌}
use mir.Syntax.{w32, w64}
use mir.Val.{SFits, to_z, of_z}
use mir.Facts.{to_z-of_z, to_z_pos}
use Rattle.whole.specs.Numbers.{size, Within}
use Rattle.whole.specs.Rounding.{half_up, nearest}
use Rattle.whole.proofs.Parts.{zs}
use Rattle.whole.proofs.Num.{nums, num_in, num_minus, num_back, fits, gives, test}
use Rattle.window.specs.Bounds.{MeanOk}
use Rattle.window.proofs.Sums.{nearest_up, nearest_down, mean_bits, mean_small, between_bits, sum_within}
use Rattle.window.proofs.mean_of.Goals as goal
use Rattle.window.proofs.mean_of.Goals.{After-size, Then-sum-lt0}

-- q is the mean's size
module _ (sum : ℤ) (n q : ℕ) (h : 0 < n) (k : MeanOk sum n) (e : q ≡ half_up (size sum) n) where
  small : Within 2147483648 (pos q)
  small = record { within = omega (arith, e, mean_small sum n (mean_bits sum n h k)) }

  bits : SFits w32 (nearest sum n)
  bits = between_bits (nearest sum n) (mean_bits sum n h k)

  held : to_z w64 q ≡ pos q
  held = let s = small in to_z_pos w64 (omega arith)

  minus_fits : SFits w64 (pos 0 -ℤ to_z w64 q)
  minus_fits = rw held (fits (num_minus (num_in small)) tt)

  down : sum <ℤ pos 0 → to_z w64 (of_z w64 (pos 0 -ℤ to_z w64 q)) ≡ nearest sum n
  down l = rw held (gives (num_back (num_minus (num_in small))) tt (ap (λ (a : ℕ). neg_ℤ (pos a)) e ∙ nearest_down sum n l))

  up : pos 0 ≤ℤ sum → pos q ≡ nearest sum n
  up l = ap pos e ∙ nearest_up sum n l

size_is : (c : After-size) → c.size.result ≡ size c.args.sum
size_is c =
    let w = sum_within c.requires in
    let e : to_z w64 (of_z w64 c.args.sum) ≡ c.args.sum = gives (search nums depth 12) tt refl in
    c.size.ensures ∙ ap size e

some : (c : After-size) → 0 < c.args.n
some c = omega (arith, c.if-n-eq0.false)

half_is : (c : After-size) →
    (c.size.result + c.args.n / 2) / c.args.n ≡ half_up (size c.args.sum) c.args.n
half_is c = ap (λ (k : ℕ). half_up k c.args.n) (size_is c)

-- which way the sum goes
negative : (c : Then-sum-lt0) → c.args.sum <ℤ pos 0
negative c =
    let w = sum_within c.requires in
    let l = test c.if-sum-lt0.true (search nums depth 12) tt in
    omega (arith, zs)

pub overflow_cast-result-then-sum-lt0 : goal.overflow_cast-result-then-sum-lt0
overflow_cast-result-then-sum-lt0 c =
    rw (down c.args.sum c.args.n _ (some (goal.at.overflow_cast-result-then-sum-lt0 c).After-size) c.requires (half_is (goal.at.overflow_cast-result-then-sum-lt0 c).After-size) (negative (goal.at.overflow_cast-result-then-sum-lt0 c).Then-sum-lt0))
    (bits c.args.sum c.args.n _ (some (goal.at.overflow_cast-result-then-sum-lt0 c).After-size) c.requires (half_is (goal.at.overflow_cast-result-then-sum-lt0 c).After-size))

pub returns-then-sum-lt0 : goal.returns-then-sum-lt0
returns-then-sum-lt0 c =
    rw (down c.args.sum c.args.n _ (some (goal.at.returns-then-sum-lt0 c).After-size) c.requires (half_is (goal.at.returns-then-sum-lt0 c).After-size) (negative (goal.at.returns-then-sum-lt0 c).Then-sum-lt0))
    (to_z-of_z (bits c.args.sum c.args.n _ (some (goal.at.returns-then-sum-lt0 c).After-size) c.requires (half_is (goal.at.returns-then-sum-lt0 c).After-size)))
