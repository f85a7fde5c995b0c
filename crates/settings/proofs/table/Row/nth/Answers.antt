use mathlib.Core.Path.{sym, ◌∙◌}
use lib.ListN.{get_or-map, length-map}
use Rattle.settings.specs.Table.{row_of, row_at, no_row}
use Rattle.whole.proofs.Lists.{get_d_any}
use Rattle.settings.proofs.table.Row.nth.Goals as goal

pub returns : goal.returns
unfolding row_at
returns c =
    let kinds = c.args.kinds.now in
    c.of.ensures ∙ sym (get_or-map row_of kinds c.args.j _) ∙ get_d_any _ c.args.j _ no_row (rw length-map c.requires)
