use lib.IntN.{ℤ, ◌+ℤ◌}
use mir.Syntax.{w64}
use mir.Val.{to_z, of_z}
use Rattle.pid.proofs.Std.{num_clamp}
use mathlib.Core.Path.{refl}
use Rattle.whole.proofs.Num.{Num, nums, num_via, fits, gives}
use Rattle.pid.specs.Sample.{back_calculated}
use Rattle.pid.proofs.Arithmetic.{calls}
use Rattle.pid.proofs.sample.back_calculate.Goals as goal
use Rattle.pid.proofs.sample.back_calculate.Goals.{After-clamp, After-round}

abbrev wide : ℤ → ℤ
wide x = to_z w64 (of_z w64 x)

abbrev r_num : (c : After-round) → Num c.round.result
r_num c = num_via c.round.ensures (search (nums, calls) depth 20)

pub overflow_add-integral-2 : goal.overflow_add-integral-2
overflow_add-integral-2 c = let r = r_num (goal.at.overflow_add-integral-2 c).After-round in fits (search nums depth 12) tt

abbrev at_num : (c : After-clamp) → Num c.clamp.result
at_num c =
    let r : Num c.round.result = num_via c.round.ensures (search (nums, calls) depth 20) in
    num_via c.clamp.ensures.value (num_clamp {x = wide (wide (wide c.args.integral +ℤ wide c.args.g) +ℤ wide c.round.result)} c.clamp.ensures.lower_bound c.clamp.ensures.upper_bound (search nums depth 20) (search nums depth 12) (search nums depth 12))

pub returns : goal.returns
unfolding back_calculated
returns c = let a = at_num (goal.at.returns c).After-clamp in gives (search nums depth 12) tt refl
