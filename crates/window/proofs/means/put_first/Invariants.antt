-- The loop's invariant: what is left to do, done from here, gives what all of it gives from the start.
use Prim.Native.Nat.{◌-◌, ◌≤◌}
use mathlib.Core.Path.{◌≡◌}
use lib.ListN.{length, drop}
use lib.Seq.{sets}
use Rattle.window.specs.Means.{past_of}
use Rattle.window.specs.Bounds.{summed_of}
use Rattle.window.specs.Running.{counted_on, means_at}
use Rattle.window.proofs.means.put_first.Given as goal

abbrev pub invariant-loop-i : goal.invariant-loop-i
invariant-loop-i l =
    (l.i ≤ length l.samples)
    × (length l.out ≡ length l.initial.out)
    × (l.s.n ≤ l.most)
    × (l.s ≡ summed_of l.s.n (past_of l.places l.samples l.i))
    × (counted_on l.most l.s.n (drop l.i l.samples) ≡ counted_on l.most l.n l.samples)
    × (sets l.out l.i (means_at l.most l.s.n (past_of l.places l.samples l.i) (drop l.i l.samples)) ≡ sets l.initial.out 0 (means_at l.most l.n l.places l.samples))

abbrev pub decreases-loop-i : goal.decreases-loop-i
decreases-loop-i l = length l.samples - l.i
