use Rattle.settings.specs.Table.{table, no_row, row_at}
use Rattle.settings.proofs.table.Row.kind.Goals as goal

pub returns : goal.returns
unfolding table no_row row_at
returns c = c.nth.ensures
