-- 01's law as it stands without 02's request 7: a sample's steps read pv itself, and no window is kept. What mean 1 is held
-- against. And what it refuses without request 8, which jump 2,000,000 is held against.
use Rattle.std.specs.Prelude.{ℕ, cond, ℤ}
use Rattle.settings.specs.Table.{in_reach}
use Rattle.window.specs.Window.{fresh_window}
use Rattle.command.specs.declared.Command.{Command}
use Rattle.command.specs.declared.Command.TheVariants.{Sample, Hold, Put, Automatic, Target, Set}
use Rattle.record.specs.declared.Loop.{Loop}
use Rattle.record.specs.Refusals.{refusal_of}
use Rattle.pid.specs.Sample.{moved_of}
use Rattle.pid.specs.Law.{with_moving, fixed_of, moving_of, step_of}

unfoldable pub plain_sample_of : Loop → ℤ → Loop
plain_sample_of l pv = with_moving l l.window pv (moved_of (fixed_of l) (moving_of l) pv)

unfoldable pub plain_step_of : Loop → Command → Loop
plain_step_of l (Sample pv) = plain_sample_of l pv
plain_step_of l Hold = step_of l Hold
plain_step_of l (Put x) = step_of l (Put x)
plain_step_of l Automatic = step_of l Automatic
plain_step_of l (Target t r) = step_of l (Target t r)
plain_step_of l (Set k) = step_of l (Set k)

-- the loop with an empty window: all else that it remembers
abbrev pub windowless : Loop → Loop
windowless l = with_moving l fresh_window l.raw (moving_of l)

-- no sample is refused but one out of range
unfoldable pub plain_refusal_of : Loop → Command → ℕ
plain_refusal_of l (Sample pv) = cond (in_reach pv) 0 4
plain_refusal_of l Hold = refusal_of l Hold
plain_refusal_of l (Put x) = refusal_of l (Put x)
plain_refusal_of l Automatic = refusal_of l Automatic
plain_refusal_of l (Target t r) = refusal_of l (Target t r)
plain_refusal_of l (Set k) = refusal_of l (Set k)
