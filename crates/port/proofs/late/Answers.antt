use mathlib.Core.Path.{ap}
use mir.Facts.{to_z-of_z}
use Rattle.delivery.specs.Replay.{Replayed}
use Rattle.port.proofs.late.Goals as goal

pub returns-clause-value : goal.returns-clause-value
returns-clause-value c =
    rw (to_z-of_z c.ranges.value, ap (λ (x : Replayed). x.state) c.replay.ensures.value) at c.deliver.ensures
