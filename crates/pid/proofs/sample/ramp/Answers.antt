use Rattle.pid.proofs.Std.{bounds}
use Rattle.whole.proofs.Num.{Num, nums, num_via, fits, gives, test}
use Rattle.pid.specs.Sample.{ramped}
use Rattle.pid.proofs.sample.ramp.Goals as goal
use Rattle.pid.proofs.sample.ramp.Goals.{After-min, After-min-2}

abbrev up : (c : After-min) → Num c.min.result
up c = num_via c.min.ensures.value (search (nums, bounds) depth 20)

abbrev down : (c : After-min-2) → Num c.min-2.result
down c = num_via c.min-2.ensures.value (search (nums, bounds) depth 20)

pub overflow_add-result : goal.overflow_add-result
overflow_add-result c = let r = up (goal.at.overflow_add-result c).After-min in fits (search nums depth 12) tt

pub returns-then-w-target : goal.returns-then-w-target
unfolding ramped
returns-then-w-target c =
    let r = up (goal.at.returns-then-w-target c).After-min in gives (search nums depth 12) tt (rw (test c.if-w-target.true (search nums depth 12) tt))

pub overflow_sub-result : goal.overflow_sub-result
overflow_sub-result c = let r = down (goal.at.overflow_sub-result c).After-min-2 in fits (search nums depth 12) tt

pub returns : goal.returns
unfolding ramped
returns c =
    let r = down (goal.at.returns c).After-min-2 in gives (search nums depth 12) tt (rw (test c.if-w-target.false (search nums depth 12) tt))
