-- DEMAND 2, of the plain law. Each command is the definition's (the contract of `obey`); what is said here follows from it.
use Prim.Native.Nat.{◌<◌, ◌≤◌}
use mathlib.Core.Path.{◌≡◌, ◌∙◌}
use mathlib.Core.Bool.{true}
use mathlib.Core.List.{List}
use lib.IntN.{ℤ, ◌+ℤ◌}
use Rattle.command.specs.declared.Command.{Command}
use Rattle.command.specs.declared.Command.TheVariants.{Sample}
use Rattle.record.specs.declared.Loop.{Loop}
use Rattle.record.specs.Record.{valid}
use Rattle.pid.specs.Law.{step_of}
use Rattle.pid.specs.Run.{obeyed, accepted, switches, between, unbroken, shares, no_target, samples, samples_to_target}
use Rattle.pid.proofs.Bumpless.{switch_still, switch_quiet, between_quiet, between_still, quiet_still}
use Rattle.pid.proofs.Shares.{run_shares}
use Rattle.pid.proofs.Ramp.{ceiling_reaches, ceiling_first}

-- "Hold, leaving manual and a change of gain set move the output by nothing"
pub switch_moves_nothing : (l : Loop) (c : Command) → switches l c ≡ true → (step_of l c).u ≡ l.u
switch_moves_nothing = switch_still

-- "nor does the first sample after each": whatever commands but puts and samples stand between
pub first_sample_moves_nothing : (l : Loop) (c : Command) (cs : List Command) (pv : ℤ) → switches l c ≡ true → between cs ≡ true →
    ((step_of (obeyed (step_of l c) cs) (Sample pv)).u ≡ (obeyed (step_of l c) cs).u) × ((obeyed (step_of l c) cs).u ≡ l.u)
first_sample_moves_nothing l c cs pv s b =
    (quiet_still (obeyed (step_of l c) cs) pv (between_quiet (step_of l c) cs (switch_quiet l c s) b), between_still (step_of l c) cs b ∙ switch_still l c s)

-- "Over an unbroken run of kept ordinary automatic samples within limits, the integral moves by exactly the sum of gain times
-- error, one share for each sample": for clamping (kt = 0) and for back-calculation (kt > 0)
pub integral_moves_by_shares : (l : Loop) (cs : List Command) → valid l ≡ true → accepted l cs ≡ true → unbroken l cs ≡ true →
    (obeyed l cs).integral ≡ l.integral +ℤ shares l cs
integral_moves_by_shares = run_shares

-- "Where no new target comes between, w is at the target after exactly ceiling(distance / rate) samples"
pub on_target : (l : Loop) (cs : List Command) → valid l ≡ true → no_target cs ≡ true → samples_to_target l ≤ samples cs →
    (obeyed l cs).w ≡ l.target
on_target = ceiling_reaches

-- "and not before"
pub not_before : (l : Loop) (cs : List Command) → valid l ≡ true → no_target cs ≡ true → samples cs < samples_to_target l →
    (obeyed l cs).w ≡ l.target → ⊥
not_before = ceiling_first
