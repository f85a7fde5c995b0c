use Rattle.settings.specs.Settings.{blank_settings}
use Rattle.record.specs.Record.{blank_loop}
use Rattle.record.proofs.Loop.blank.Goals as goal

pub returns : goal.returns
unfolding blank_loop blank_settings
returns c = rw (c.fresh.ensures, c.blank.ensures)
