-- 02, request 3: mirrored loops. What each mirror makes of a number, of a command, of a record and of an answer.
use Rattle.std.specs.Prelude.{◌≡◌, map, Option, Some, None, ℤ, pos, negsuc, neg_ℤ, ◌-ℤ◌}
use Rattle.std.specs.Int.{w32}
use Rattle.std.proofs.Common.{SFits}
use Rattle.settings.specs.declared.Settings.{Settings}
use Rattle.command.specs.declared.Command.{Command}
use Rattle.command.specs.declared.Command.TheVariants.{Sample, Hold, Put, Automatic, Target, Set}
use Rattle.command.specs.Command.{value_of, second_of}
use Rattle.window.specs.declared.Window.{Window}
use Rattle.record.specs.declared.Loop.{Loop}
use Rattle.pid.specs.Law.{Obeyed}
use Rattle.pid.specs.Play.{Played}
use Rattle.memory.specs.declared.Entry.{Entry}
use Rattle.memory.specs.declared.Memory.{Memory}
use Rattle.memory.specs.Walk.{Delivery, Answer}
use Rattle.delivery.specs.declared.numbered.Numbered.{Numbered}
use Rattle.delivery.specs.Numbered.{Delivered}
use Rattle.delivery.specs.Replay.{Replayed}

pub data Mirror : Type 0 where
  -- "Flip only the action, the limits (to -hi..-lo), out and puts: every output and the integral change sign, w and y do not."
  of_action : Mirror
  -- "Keep the action and flip limits, out, puts, temperatures, sp and targets: outputs, integral, w and y all change sign."
  of_temperatures : Mirror

-- ---- numbers. Outputs, limits and integrals change sign in both

-- a temperature: what is measured, the last kept raw one, sp, targets, w and y
abbrev pub flip_temperature : Mirror → ℤ → ℤ
flip_temperature of_action z = z
flip_temperature of_temperatures z = neg_ℤ z

-- the action: 0 becomes 1, and 1 becomes 0
abbrev pub flip_action : Mirror → ℤ → ℤ
flip_action of_action a = pos 1 -ℤ a
flip_action of_temperatures a = a

-- ---- settings and commands: what the request names

abbrev pub flip_settings : Mirror → Settings → Settings
flip_settings k s = record {
  action = flip_action k s.action;
  lo = neg_ℤ s.hi;
  hi = neg_ℤ s.lo;
  out = neg_ℤ s.out;
  sp = flip_temperature k s.sp;
  rate = s.rate;
  mean = s.mean;
  jump = s.jump;
  gains = s.gains;
}

abbrev pub flip_command : Mirror → Command → Command
flip_command k (Sample pv) = Sample (flip_temperature k pv)
flip_command k Hold = Hold
flip_command k (Put x) = Put (neg_ℤ x)
flip_command k Automatic = Automatic
flip_command k (Target t r) = Target (flip_temperature k t) r
flip_command k (Set n) = Set n

-- ---- a loop, and what the plain law answers

-- the raw temperatures
abbrev pub flip_window : Mirror → Window → Window
flip_window of_action w = w
flip_window of_temperatures w = record { places = map neg_ℤ w.places; seen = w.seen }

abbrev pub flip_loop : Mirror → Loop → Loop
flip_loop k l = record {
  settings = flip_settings k l.settings;
  automatic = l.automatic;
  pending = l.pending;
  set = l.set;
  w = flip_temperature k l.w;
  target = flip_temperature k l.target;
  rate = l.rate;
  u = neg_ℤ l.u;
  integral = neg_ℤ l.integral;
  primed = l.primed;
  y = flip_temperature k l.y;
  window = flip_window k l.window;
  raw = flip_temperature k l.raw;
}

abbrev pub flip_obeyed : Mirror → Obeyed → Obeyed
flip_obeyed k r = record { code = r.code; state = flip_loop k r.state }

abbrev pub flip_played : Mirror → Played → Played
flip_played k r = record { code = r.code; place = r.place; state = flip_loop k r.state }

-- ---- numbered delivery: the same codes, the same numbers

abbrev pub flip_last : Mirror → Option Command → Option Command
flip_last k None = None
flip_last k (Some c) = Some (flip_command k c)

-- the output that a command was answered changes sign as every output does
abbrev pub flip_entry : Mirror → Entry → Entry
flip_entry k e = record { command = flip_last k e.command; output = neg_ℤ e.output }

abbrev pub flip_memory : Mirror → Memory → Memory
flip_memory k m = record { number = m.number; entries = map (flip_entry k) m.entries }

abbrev pub flip_numbered : Mirror → Numbered → Numbered
flip_numbered k s = record { state = flip_loop k s.state; memory = flip_memory k s.memory }

abbrev pub flip_delivery : Mirror → Delivery Command → Delivery Command
flip_delivery k d = record { number = d.number; command = flip_command k d.command }

abbrev pub flip_answer : Answer ℤ → Answer ℤ
flip_answer a = record { code = a.code; output = neg_ℤ a.output; number = a.number }

abbrev pub flip_delivered : Mirror → Delivered → Delivered
flip_delivered k r = record { code = r.code; output = neg_ℤ r.output; number = r.number; state = flip_numbered k r.state }

-- ---- a replay: the same code, place and count

abbrev pub flip_replayed : Mirror → Replayed → Replayed
flip_replayed k r = record { code = r.code; place = r.place; count = r.count; state = flip_numbered k r.state }

-- ---- "no value being the least of its type"

-- a command that the machine can hold: each of its values is one of 32 bits
pub record Held (c : Command) : Type 0 where
  pub value : SFits w32 (value_of c)
  pub second : SFits w32 (second_of c)

-- -2,147,483,648 has no opposite of 32 bits
abbrev pub least_value : ℤ
least_value = negsuc 2147483647

-- no flipped value of c is the least of its type: where c has that value, the mirror leaves it
pub record Opposed (k : Mirror) (c : Command) : Type 0 where
  pub left : value_of c ≡ least_value → value_of (flip_command k c) ≡ value_of c
