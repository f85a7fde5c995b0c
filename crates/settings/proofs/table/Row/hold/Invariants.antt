-- The loop's invariant: the test of all values is what was found so far, and the test of those that are left.
use Rattle.std.proofs.Common.{◌≡◌, ◌+◌, drop}
use mathlib.Core.Bool.{◌&&◌}
use Rattle.settings.specs.Settings.{held_from}
use Rattle.settings.proofs.table.Row.hold.Given as goal

abbrev pub invariant-loop-i : goal.invariant-loop-i
invariant-loop-i l = held_from l.from l.values ≡ (l.ok && held_from (l.from + l.i) (drop l.i l.values))
