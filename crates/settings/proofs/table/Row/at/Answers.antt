use Prim.Native.Nat.{◌-◌, ◌/◌}
use mathlib.Core.Path.{sym, ap, ◌∙◌}
use native.Mathlib.Omega.{arith}
use lib.ListN.{get_or-eq_default}
use Rattle.settings.specs.declared.table.Row.{Row}
use Rattle.settings.specs.Table.{sets, heads, keys, numbered, rows, no_row}
use Rattle.settings.proofs.Rows.{row_head, row_set, rows_long, kind_short}
use Rattle.settings.proofs.table.Row.at.Goals as goal

pub returns-then-i-lt-HEAD : goal.returns-then-i-lt-HEAD
returns-then-i-lt-HEAD c = c.kind.ensures ∙ row_head c.args.i c.if-i-lt-HEAD.true

pub numbered-requires : goal.numbered-requires
numbered-requires c = (rw c.kind-kind.ensures (kind_short _), omega arith)

pub returns-then-i-lt-LINES : goal.returns-then-i-lt-LINES
returns-then-i-lt-LINES c =
    let i = c.args.i in
    c.numbered.ensures
    ∙ ap (λ (r : Row). numbered r ((i - heads) / keys)) c.kind-kind.ensures
    ∙ row_set i c.if-i-lt-HEAD.false c.if-i-lt-LINES.true

pub returns : goal.returns
unfolding no_row
returns c = sym (get_or-eq_default rows no_row {n = c.args.i} (omega (arith, rows_long sets, c.if-i-lt-LINES.false)))
