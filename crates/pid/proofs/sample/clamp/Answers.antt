use Rattle.pid.proofs.Std.{bounds}
use Rattle.whole.proofs.Num.{Num, nums, num_back, num_via, gives, test}
use Rattle.pid.specs.Sample.{clamped}
use Rattle.pid.proofs.sample.clamp.Goals as goal
use Rattle.pid.proofs.sample.clamp.Goals.{After-min, After-max-then-g-lt0}

abbrev up : (c : After-min) → Num c.min.result
up c = num_via c.min.ensures.value (search (nums, bounds) depth 20)

abbrev down : (c : After-max-then-g-lt0) → Num c.max-then-g-lt0.result
down c = num_via c.max-then-g-lt0.ensures.value (search (nums, bounds) depth 20)

pub returns-then-g-gt0 : goal.returns-then-g-gt0
unfolding clamped
returns-then-g-gt0 c =
    let r = up (goal.at.returns-then-g-gt0 c).After-min in
    gives (num_back (num_via c.max.ensures.value (search (nums, bounds) depth 20))) tt
    (rw (test c.if-g-gt0.true (search nums depth 12) tt))

pub returns-then-g-lt0 : goal.returns-then-g-lt0
unfolding clamped
returns-then-g-lt0 c =
    let r = down (goal.at.returns-then-g-lt0 c).After-max-then-g-lt0 in
    gives (num_back (num_via c.min-then-g-lt0.ensures.value (search (nums, bounds) depth 20))) tt
    (rw (test c.if-g-gt0.false (search nums depth 12) tt, test c.if-g-lt0.true (search nums depth 12) tt))

pub returns : goal.returns
unfolding clamped
returns c =
    gives (search nums depth 12) tt (rw (test c.if-g-gt0.false (search nums depth 12) tt, test c.if-g-lt0.false (search nums depth 12) tt))
