-- The loop's invariant is `Turn`: what is left to do, done from here, gives what all of it gives from the start.
use Rattle.pid.specs.Told.{fixed_told, moving_told}
use Rattle.pid.proofs.Turns.{Turn}
use Rattle.pid.proofs.play.run.Given as goal

abbrev pub invariant-loop-place : goal.invariant-loop-place
invariant-loop-place l = Turn (fixed_told l.f) l.initial.place-items l.initial.place-items (moving_told l.initial.m) l.place-items (moving_told l.m) l.place-index
