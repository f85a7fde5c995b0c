-- The loop's invariant: the places that are left, put from here, give what all of them give from the start.
use Prim.Native.Nat.{◌-◌, ◌≤◌}
use mathlib.Core.Path.{◌≡◌}
use lib.ListN.{length, drop}
use lib.Seq.{sets}
use Rattle.window.proofs.means.put_samples.Given as goal

abbrev pub invariant-loop-i : goal.invariant-loop-i
invariant-loop-i l = (l.i ≤ length l.samples) × (length l.out ≡ length l.initial.out) × (sets l.out l.i (drop l.i l.samples) ≡ sets l.initial.out 0 l.samples)

abbrev pub decreases-loop-i : goal.decreases-loop-i
decreases-loop-i l = length l.samples - l.i
