use mathlib.Core.Path.{◌≡◌, ◌∙◌}
use mir.Facts.{to_z-of_z}
use Rattle.whole.proofs.Truth.{so}
use Rattle.settings.specs.Table.{in_reach}
use Rattle.temperature.specs.Temperature.{code_of}
use Rattle.temperature.proofs.InRange.{contains_is}
use Rattle.temperature.proofs.Guard.check.Goals as goal
use Rattle.temperature.proofs.Guard.check.Goals.{After-contains}

test_is : (c : After-contains) → c.contains.result ≡ in_reach c.args.pv
test_is c =
    let n = c.new.ensures in
    rw (to_z-of_z c.ranges.pv) at (c.contains.ensures.value ∙ contains_is _ n.start n.end n.exhausted)

pub returns-then-not-contains : goal.returns-then-not-contains
unfolding code_of
returns-then-not-contains c =
    rw (so (test_is (goal.at.returns-then-not-contains c).After-contains) c.if-not-contains.true)

pub returns-then-jumps : goal.returns-then-jumps
unfolding code_of
returns-then-jumps c =
    rw (so (test_is (goal.at.returns-then-jumps c).After-contains) c.if-not-contains.false, rw (to_z-of_z c.ranges.pv) at (so c.jumps.ensures c.if-jumps.true))

pub returns : goal.returns
unfolding code_of
returns c =
    rw (so (test_is (goal.at.returns c).After-contains) c.if-not-contains.false, rw (to_z-of_z c.ranges.pv) at (so c.jumps.ensures c.if-jumps.false))
