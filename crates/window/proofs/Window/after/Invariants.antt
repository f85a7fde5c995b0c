-- The loop's invariant: the places so far are the newest temperatures.
use mathlib.Core.Path.{◌≡◌}
use lib.ListN.{length, take}
use Rattle.settings.specs.Table.{window}
use Rattle.window.specs.Means.{past_of}
use Rattle.window.proofs.Window.after.Given as goal

abbrev pub invariant-loop-i : goal.invariant-loop-i
invariant-loop-i l = (length l.place-items ≡ window) × (take l.i l.place-items ≡ take l.i (past_of l.self.places l.samples (length l.samples)))
