-- 01, "The law, one command at a time": what each command does, and what is refused. "The plain law knows no numbers."
use Rattle.std.specs.Prelude.{ℕ, cond, eqb, ℤ, pos, neg_ℤ, ◌*ℤ◌}
use Rattle.whole.specs.Numbers.{plus, eq_z}
use Rattle.command.specs.declared.Command.{Command}
use Rattle.command.specs.declared.Command.TheVariants.{Sample, Hold, Put, Automatic, Target, Set}
use Rattle.window.specs.declared.Window.{Window}
use Rattle.window.specs.Window.{taken, mean_at}
use Rattle.settings.specs.Settings.{gains_at}
use Rattle.refusal.specs.Refusal.{code_in}
use Rattle.record.specs.declared.After.{After}
use Rattle.record.specs.declared.Loop.{Loop}
use Rattle.record.specs.Units.{F}
use Rattle.record.specs.Record.{valid}
use Rattle.record.specs.Refusals.{refusal_of}
use Rattle.record.specs.Commands.{hold_of, put_of, automatic_of, target_of, set_of}
use Rattle.pid.specs.Numbers.{Fixed}
use Rattle.pid.specs.Numbers.{Moving}
use Rattle.pid.specs.Sample.{moved_of}

-- ---- the fields that a sample changes, written out once

abbrev pub with_moving : Loop → Window → ℤ → Moving → Loop
with_moving l window raw m = record {
  settings = l.settings;
  automatic = l.automatic;
  pending = m.pending;
  set = l.set;
  w = m.w;
  target = l.target;
  rate = l.rate;
  u = m.u;
  integral = m.integral;
  primed = m.primed;
  y = m.y;
  window = window;
  raw = raw;
}

-- ---- what a sample reads of the loop, and what it moves

-- "0 heats (s = 1), 1 cools (s = -1)"
abbrev pub sign_of : ℤ → ℤ
sign_of action = cond (eq_z action (pos 0)) (pos 1) (neg_ℤ (pos 1))

abbrev pub fixed_of : Loop → Fixed
fixed_of l = record {
  sign = sign_of l.settings.action;
  lo = l.settings.lo *ℤ pos F;
  hi = l.settings.hi *ℤ pos F;
  target = l.target;
  rate = l.rate;
  automatic = l.automatic;
  kp = (gains_at l.settings.gains l.set).kp;
  ki = (gains_at l.settings.gains l.set).ki;
  kd = (gains_at l.settings.gains l.set).kd;
  alpha = (gains_at l.settings.gains l.set).alpha;
  kt = (gains_at l.settings.gains l.set).kt;
}

abbrev pub moving_of : Loop → Moving
moving_of l = record { w = l.w; u = l.u; integral = l.integral; y = l.y; primed = l.primed; pending = l.pending }

-- ---- the commands

-- "The law then reads the mean wherever 01 writes pv" (02, request 7)
abbrev pub read_at : Loop → ℤ → ℤ
read_at l pv = mean_at (plus l.settings.mean) l.window pv

-- "Sample pv." "The window takes every kept sample, in manual too.", and it is "the last kept raw temperature" from then on
unfoldable pub sample_of : Loop → ℤ → Loop
sample_of l pv = with_moving l (taken l.window pv) pv (moved_of (fixed_of l) (moving_of l) (read_at l pv))

unfoldable pub step_of : Loop → Command → Loop
step_of l (Sample pv) = sample_of l pv
step_of l Hold = hold_of l
step_of l (Put x) = put_of l x
step_of l Automatic = automatic_of l
step_of l (Target t r) = target_of l t r
step_of l (Set k) = set_of l (plus k)

-- what an obeyed command tells: its code, and the loop after it
pub record Obeyed : Type 0 where
  pub code : ℕ
  pub state : Loop

abbrev pub obeyed_told : After Loop → Obeyed
obeyed_told o = record { code = code_in o.outcome; state = o.state }

-- the plain law from any record: "10; then content"; "every refusal hands back the record that came in"
unfoldable pub law_of : Loop → Command → Obeyed
law_of l c =
    cond (valid l)
    (cond (eqb (refusal_of l c) 0) (record { code = 0; state = step_of l c }) (record { code = refusal_of l c; state = l }))
    (record { code = 10; state = l })
