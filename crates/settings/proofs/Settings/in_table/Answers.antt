use mathlib.Core.Path.{◌≡◌, refl, sym, ap, ◌∙◌}
use mathlib.Core.Bool.{◌&&◌}
use Prim.Native.Nat.{◌+◌}
use native.Mathlib.Omega.{arith}
use Rattle.settings.specs.Table.{table, head_rows}
use Rattle.settings.specs.Settings.{all_in, head_values, held_from}
use Rattle.settings.proofs.Fit.{settings_fit}
use Rattle.settings.proofs.Ranges.{sets_in, table_parts, table_sets, sets_in_next, sets_in_end}
use Rattle.settings.proofs.Settings.in_table.Goals as goal
use Rattle.settings.proofs.Settings.in_table.Goals.{After-hold, After-in_table}

head : (c : After-hold) → c.hold.result ≡ all_in head_rows (head_values c.args.self)
unfolding table
head c = c.hold.ensures ∙ ap (held_from 0) c.head.ensures

-- the test of the set of this turn, and what is then left
turn : (c : After-in_table) →
    let s = c.args.self in
    sets_in s.gains 0 ≡ (c.in_table.result && sets_in s.gains (c.loop-set.set-index + 1))
turn c =
    let s = c.args.self in
    let n = (settings_fit s c.well_formed.0).sets in
    c.loop-set.invariant ∙ sets_in_next s.gains c.loop-set.set-index (omega (arith, c.loop-set-test.true)) n ∙ rw (← c.in_table.ensures)

pub returns-then-not-hold : goal.returns-then-not-hold
returns-then-not-hold c =
    sym (table_parts c.args.self ∙ rw (sym (head (goal.at.returns-then-not-hold c).After-hold) ∙ c.if-not-hold.true))

pub loop-set-init : goal.loop-set-init
loop-set-init c = refl

pub returns-then-not-in_table : goal.returns-then-not-in_table
returns-then-not-in_table c =
    let h = sym (head (goal.at.returns-then-not-in_table c).After-hold) ∙ c.if-not-hold.false in
    sym (table_sets c.args.self h ∙ turn (goal.at.returns-then-not-in_table c).After-in_table ∙ rw c.if-not-in_table.true)

pub loop-set-preserved : goal.loop-set-preserved
loop-set-preserved c = turn (goal.at.loop-set-preserved c).After-in_table ∙ rw c.if-not-in_table.false

pub returns : goal.returns
returns c =
    let s = c.args.self in
    let h = sym (head (goal.at.returns c).After-hold) ∙ c.if-not-hold.false in
    sym (table_sets s h ∙ c.loop-set.invariant ∙ sets_in_end s.gains c.loop-set.set-index c.loop-set-test.false)
