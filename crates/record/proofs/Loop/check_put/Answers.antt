use mathlib.Core.Path.{◌≡◌, ◌∙◌}
use mir.Facts.{to_z-of_z}
use Rattle.whole.specs.Numbers.{inside}
use Rattle.whole.proofs.Truth.{so}
use Rattle.temperature.proofs.InRange.{contains_is}
use Rattle.record.proofs.Fit.{loop_fit}
use Rattle.record.proofs.Loop.check_put.Goals as goal
use Rattle.record.proofs.Loop.check_put.Goals.{After-contains}

test_is : (c : After-contains) → c.contains.result ≡ inside c.args.self.settings.lo c.args.self.settings.hi c.args.x
test_is c =
    let f = loop_fit c.args.self c.well_formed.0 in
    let n = c.new.ensures in
    rw (to_z-of_z f.settings.lo, to_z-of_z f.settings.hi, to_z-of_z c.ranges.x) at (c.contains.ensures.value ∙ contains_is _ n.start n.end n.exhausted)

pub returns-then-not-contains : goal.returns-then-not-contains
returns-then-not-contains c =
    rw (c.if-self.false, so (test_is (goal.at.returns-then-not-contains c).After-contains) c.if-not-contains.true)

pub returns : goal.returns
returns c = rw (c.if-self.false, so (test_is (goal.at.returns c).After-contains) c.if-not-contains.false)
