use Rattle.pid.specs.Told.{fixed_told, moving_told, sensed_told}
use Rattle.pid.proofs.Held.{fixed_good, moving_good, sensed_good}
use Rattle.pid.proofs.Std.{num_clamp}
use mathlib.Core.Path.{refl, ap, ◌∙◌}
use lib.IntN.{ℤ}
use mir.Syntax.{w64}
use mir.Val.{to_z, of_z}
use Rattle.whole.specs.Numbers.{Within}
use Rattle.settings.specs.Table.{reach}
use Rattle.record.specs.Units.{fine_reach}
use Rattle.whole.proofs.Bits.{back}
use Rattle.pid.proofs.Samples.{new_i_within}
use Rattle.pid.proofs.Shapes.{moving_is}
use Rattle.whole.proofs.Num.{Num, nums, num_back, num_via, fits, stays, gives}
use Rattle.pid.specs.Sample.{integrated, ordinary_of}
use Rattle.pid.proofs.Arithmetic.{calls}
use Rattle.pid.proofs.numbers.Fixed.ordinary.Goals as goal
use Rattle.pid.proofs.numbers.Fixed.ordinary.Goals.{After-clamp-at, After-sum-v}

abbrev wide : ℤ → ℤ
wide x = to_z w64 (of_z w64 x)

abbrev v_num : (c : After-sum-v) → Num c.sum-v.result
v_num c =
    let f = (fixed_good c.args.self) in
    let m = (moving_good c.args.m) in
    let z = (sensed_good c.args.z) in
    num_via c.sum-v.ensures (search nums depth 12)

abbrev at_num : (c : After-clamp-at) → Num c.clamp-at.result
at_num c =
    let f = (fixed_good c.args.self) in
    let m = (moving_good c.args.m) in
    let z = (sensed_good c.args.z) in
    let v : Num c.sum-v.result = num_via c.sum-v.ensures (search nums depth 12) in
    num_via c.clamp-at.ensures.value (num_clamp c.clamp-at.ensures.lower_bound c.clamp-at.ensures.upper_bound (search (nums, calls) depth 20) (search nums depth 12) (search nums depth 12))

pub round-u-requires : goal.round-u-requires
round-u-requires c =
    let a = at_num (goal.at.round-u-requires c).After-clamp-at in
    stays (search nums depth 12) tt

pub overflow_sub-at : goal.overflow_sub-at
overflow_sub-at c =
    let a = at_num (goal.at.overflow_sub-at c).After-clamp-at in
    let v = v_num (goal.at.overflow_sub-at c).After-sum-v in
    fits (search nums depth 12) tt

pub integrate-integral-requires : goal.integrate-integral-requires
integrate-integral-requires c =
    let a = at_num (goal.at.integrate-integral-requires c).After-clamp-at in
    let v = v_num (goal.at.integrate-integral-requires c).After-sum-v in
    stays (search nums depth 12) tt

pub invariant_of-result : goal.invariant_of-result
invariant_of-result c =
    let f = fixed_good c.args.self in
    let m = moving_good c.args.m in
    let z = sensed_good c.args.z in
    let a = at_num (goal.at.invariant_of-result c).After-clamp-at in
    let v = v_num (goal.at.invariant_of-result c).After-sum-v in
    let r = c.integrate-integral in
    let w : Within reach (wide c.args.z.w) = stays (search nums depth 12) tt in
    let u : Within reach (wide c.round-u.result) = stays (num_back (num_via c.round-u.ensures (search (nums, calls) depth 20))) tt in
    let y : Within fine_reach (wide c.args.z.y) = stays (search nums depth 12) tt in
    record {
      w_in = w.within;
      u_in = u.within;
      integral_in =
          rw (back w64 r.result r.type_inv ∙ r.ensures ∙ ap (integrated (fixed_told c.args.self) (moving_told c.args.m) (sensed_told c.args.z)) (gives (search nums depth 12) tt refl))
          (new_i_within (fixed_told c.args.self) (moving_told c.args.m) (sensed_told c.args.z) f m z).within;
      y_in = y.within;
    }

pub returns : goal.returns
unfolding ordinary_of
returns c =
    let z = (sensed_good c.args.z) in
    let a = at_num (goal.at.returns c).After-clamp-at in
    let v = v_num (goal.at.returns c).After-sum-v in
    let r = c.integrate-integral in
    moving_is
    (gives (search nums depth 12) tt refl)
    (gives (num_back (num_via c.round-u.ensures (search (nums, calls) depth 20))) tt refl)
    (back w64 r.result r.type_inv ∙ r.ensures ∙ ap (integrated (fixed_told c.args.self) (moving_told c.args.m) (sensed_told c.args.z)) (gives (search nums depth 12) tt refl))
    (gives (search nums depth 12) tt refl)
    refl
