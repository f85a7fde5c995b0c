-- The loop's invariant: the sum so far is that of the places so far.
use mathlib.Core.Path.{◌≡◌}
use lib.ListN.{take}
use Rattle.window.specs.Window.{sum_of}
use Rattle.window.proofs.sum_of.Given as goal

abbrev pub invariant-loop-x : goal.invariant-loop-x
invariant-loop-x l = l.sum ≡ sum_of (take l.x-index l.x-items)
