use Prim.Native.Nat.{◌-◌, ◌%◌}
use mathlib.Core.Path.{sym, ap, ◌∙◌}
use mathlib.Core.List.{List}
use native.Mathlib.Omega.{arith}
use lib.IntN.{ℤ, pos}
use lib.ListN.{get_or, get_or-eq_default}
use mir.Facts.{to_z-of_z}
use Rattle.settings.specs.Table.{heads, keys}
use Rattle.settings.specs.Settings.{values_of}
use Rattle.settings.proofs.Fit.{settings_fit}
use Rattle.settings.proofs.Rows.{value_set, values_long}
use borrow.Author.Rules.{rules}
use mir.Syntax.{w32}
use Rattle.values.proofs.value.Goals as goal

pub returns-then-i-lt-LINES : goal.returns-then-i-lt-LINES
returns-then-i-lt-LINES c =
    to_z-of_z {w = w32} (search rules)
    ∙ ap (λ (vs : List ℤ). get_or vs ((c.args.i - heads) % keys) (pos 0)) c.values.ensures
    ∙ sym (value_set c.args.settings c.args.i (settings_fit c.args.settings c.well_formed.0).sets c.if-i-lt-HEAD.false c.if-i-lt-LINES.true)

pub returns : goal.returns
returns c =
    let l = values_long c.args.settings (settings_fit c.args.settings c.well_formed.0).sets in
    sym (get_or-eq_default (values_of c.args.settings) (pos 0) {n = c.args.i} (omega (arith, c.if-i-lt-LINES.false, l)))
