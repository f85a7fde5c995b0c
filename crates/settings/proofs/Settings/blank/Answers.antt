use Rattle.settings.specs.Settings.{blank_settings}
use Rattle.settings.proofs.Settings.blank.Goals as goal

pub returns : goal.returns
unfolding blank_settings
returns c = rw c.blank.ensures
