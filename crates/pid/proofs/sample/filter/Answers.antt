use Rattle.whole.proofs.Num.{Num, nums, num_via, fits, stays, gives}
use Rattle.pid.specs.Sample.{filtered}
use Rattle.pid.proofs.Arithmetic.{calls}
use Rattle.pid.proofs.sample.filter.Goals as goal
use Rattle.pid.proofs.sample.filter.Goals.{After-round}

abbrev r_num : (c : After-round) → Num c.round.result
r_num c = num_via c.round.ensures (search (nums, calls) depth 20)

pub overflow_mul-x : goal.overflow_mul-x
overflow_mul-x c = fits (search nums depth 12) tt

pub round-requires : goal.round-requires
round-requires c = stays (search nums depth 12) tt

pub overflow_add-result : goal.overflow_add-result
overflow_add-result c = let r = r_num (goal.at.overflow_add-result c).After-round in fits (search nums depth 12) tt

pub returns-then-primed : goal.returns-then-primed
unfolding filtered
returns-then-primed c = let r = r_num (goal.at.returns-then-primed c).After-round in gives (search nums depth 12) tt (rw c.if-primed.true)

pub returns : goal.returns
unfolding filtered
returns c = gives (search nums depth 12) tt (rw c.if-primed.false)
