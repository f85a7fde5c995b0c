-- The loop's invariant: what is left to do, done from here, gives what all of it gives from the start.
use Prim.Native.Nat.{◌-◌, ◌≤◌}
use mathlib.Core.Path.{◌≡◌}
use mathlib.Core.List.{[]}
use lib.ListN.{length, drop, take}
use lib.Seq.{sets}
use Rattle.window.specs.Window.{sum_of}
use Rattle.window.specs.Means.{past_of}
use Rattle.window.specs.Running.{means_at}
use Rattle.window.proofs.means.put_rest.Given as goal

abbrev pub invariant-loop-i : goal.invariant-loop-i
invariant-loop-i l =
    (l.most ≤ l.i)
    × (l.i ≤ length l.samples)
    × (length l.out ≡ length l.initial.out)
    × (l.sum ≡ sum_of (take l.most (past_of [] l.samples l.i)))
    × (sets l.out l.i (means_at l.most l.most (past_of [] l.samples l.i) (drop l.i l.samples)) ≡ sets l.initial.out l.most (means_at l.most l.most (past_of [] l.samples l.most) (drop l.most l.samples)))

abbrev pub decreases-loop-i : goal.decreases-loop-i
decreases-loop-i l = length l.samples - l.i
