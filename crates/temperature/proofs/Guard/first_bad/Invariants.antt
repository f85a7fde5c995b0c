-- The loop's invariant: the earliest bad sample of all is as many places on as are taken from that of those that are left.
use Prim.Native.Nat.{◌+◌}
use mathlib.Core.Path.{◌≡◌}
use lib.ListN.{drop}
use Rattle.temperature.specs.Temperature.{first_bad, first_code}
use Rattle.temperature.proofs.Guard.first_bad.Given as goal

abbrev pub invariant-loop-place : goal.invariant-loop-place
invariant-loop-place l =
    (first_bad l.initial.guard l.samples ≡ l.place + first_bad l.guard (drop l.place l.samples)) × (first_code l.initial.guard l.samples ≡ first_code l.guard (drop l.place l.samples))
