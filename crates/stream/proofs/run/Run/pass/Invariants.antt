-- The loop's invariant: the whole piece leads to what the rest of it leads to, and each byte passed has left its room.
use Prim.Native.Nat.{◌+◌, ◌*◌, ◌≤◌}
use mathlib.Core.Path.{◌≡◌}
use lib.ListN.{length}
use Rattle.stream.specs.Run.{line_room}
use Rattle.stream.proofs.Pieces.{Passed}
use Rattle.stream.proofs.run.Run.pass.Given as goal

abbrev pub invariant-loop-rest : goal.invariant-loop-rest
invariant-loop-rest l =
    (length l.out ≡ length l.initial.out) × (l.at + length l.rest * line_room ≤ length l.piece * line_room) × Passed l.initial.run l.piece l.initial.out l.run l.at l.rest l.out

abbrev pub decreases-loop-rest : goal.decreases-loop-rest
decreases-loop-rest l = length l.rest
