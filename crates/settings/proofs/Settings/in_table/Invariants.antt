-- The loop's invariant: the test of all gain sets is the test of those that are left.
use mathlib.Core.Path.{◌≡◌}
use Rattle.settings.proofs.Ranges.{sets_in}
use Rattle.settings.proofs.Settings.in_table.Given as goal

abbrev pub invariant-loop-set : goal.invariant-loop-set
invariant-loop-set l = sets_in l.fn.self.gains 0 ≡ sets_in l.fn.self.gains l.set-index
