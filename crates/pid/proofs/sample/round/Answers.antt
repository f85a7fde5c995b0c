use Rattle.whole.proofs.Num.{nums, gives}
use Rattle.pid.proofs.Rounding.{shifted}
use Rattle.pid.proofs.sample.round.Goals as goal

pub returns : goal.returns
returns c = gives (search nums depth 20) tt (shifted c.args.x c.requires)
