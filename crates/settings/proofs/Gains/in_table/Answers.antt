use mathlib.Core.Path.{ap, ◌∙◌}
use Rattle.settings.specs.Table.{table, heads}
use Rattle.settings.specs.Settings.{held_from}
use Rattle.settings.proofs.Gains.in_table.Goals as goal

pub returns : goal.returns
unfolding table
returns c = c.hold.ensures ∙ ap (held_from heads) c.values.ensures
