-- 01, "Numbered delivery", amended by 02's request 6: a loop with what it remembers, and what comes back when a command is delivered
-- under a number, from any record.
use Rattle.std.specs.Prelude.{ℕ, Bool, cond, ◌&&◌, List, eqb, ℤ, pos}
use Rattle.refusal.specs.Refusal.{code_in}
use Rattle.settings.specs.declared.Settings.{Settings}
use Rattle.command.specs.declared.Command.{Command}
use Rattle.record.specs.declared.After.{After}
use Rattle.record.specs.declared.Loop.{Loop}
use Rattle.record.specs.Record.{blank_loop, valid}
use Rattle.record.specs.Record.{made_of as loop_made_of}
use Rattle.record.specs.Refusals.{refusal_of}
use Rattle.pid.specs.Law.{step_of}
use Rattle.memory.specs.declared.Entry.{Entry}
use Rattle.memory.specs.declared.Found.{Found}
use Rattle.memory.specs.declared.Found.TheVariants.{Old, Reused, Repeated, Ahead, Next}
use Rattle.memory.specs.Memory.{no_memory, remembered, memory_ok as memory_rules, found_of}
use Rattle.delivery.specs.declared.numbered.Numbered.{Numbered}
use Rattle.delivery.specs.declared.numbered.Delivered.{Delivered as Delivering}

-- ---- the record

-- a loop, the last number and the last commands with their outputs
abbrev pub record_of : Loop → ℕ → List Entry → Numbered
record_of l number entries = record { state = l; memory = record { number = number; entries = entries } }

-- a loop to which nothing has been delivered
abbrev pub new_of : Loop → Numbered
new_of l = record { state = l; memory = no_memory }

-- "the blank: every number zero, manual, every flag no, no last command"
abbrev pub blank_of : Numbered
blank_of = new_of blank_loop

-- what a making tells: its code, and the record beside it
pub record Made : Type 0 where
  pub code : ℕ
  pub state : Numbered

abbrev pub made_told : After Numbered → Made
made_told m = record { code = code_in m.outcome; state = m.state }

-- "Making a loop from settings tests 11, then 16. Where making a loop [..] is refused, what stands beside the code is the blank"
abbrev pub made_of : Settings → Made
made_of s = record { code = (loop_made_of s).code; state = new_of (loop_made_of s).state }

-- the memory's state rules; "their outputs lie in lo..hi"
abbrev pub memory_ok : Numbered → Bool
memory_ok s = memory_rules s.state.settings.lo s.state.settings.hi s.memory

-- the state rules, all of them
abbrev pub valid_of : Numbered → Bool
valid_of s = memory_ok s && valid s.state

-- ---- the answer

-- what a delivery tells: its answer, and the record beside it
pub record Delivered : Type 0 where
  pub code : ℕ
  pub output : ℤ
  pub number : ℕ
  pub state : Numbered

abbrev pub delivered_told : Delivering → Delivered
delivered_told d = record { code = code_in d.outcome; output = d.output; number = d.number; state = d.state }

-- "An answer is a code, the output in force and the last number in force, both read after the call."
abbrev pub answer_of : ℕ → Numbered → Delivered
answer_of code s = record { code = code; output = s.state.u; number = s.memory.number; state = s }

-- "A record breaking the state rules gets code 10, output 0 and number 0."
abbrev pub broken_of : Numbered → Delivered
broken_of s = record { code = 10; output = pos 0; number = 0; state = s }

-- the answer of a code with which the law refuses a command: 10 is a record's that breaks the state rules
abbrev pub refused_as : ℕ → Numbered → Delivered
refused_as code s = cond (eqb code 10) (broken_of s) (answer_of code s)

-- "gets its first answer again: code 0, that output and its own number"
abbrev pub repeat_of : ℕ → Entry → Numbered → Delivered
repeat_of number e s = record { code = 0; output = e.output; number = number; state = s }

-- "accepted, the number and command are remembered", with the output that is answered; l is what the law has left of the loop
abbrev pub kept_of : Numbered → Loop → ℕ → Command → Numbered
kept_of s l number c = record { state = l; memory = remembered s.memory number c l.u }

-- "the law is tried; accepted, the number and command are remembered; refused, nothing is, and the number stays free"
abbrev pub try_of : Numbered → ℕ → Command → Delivered
try_of s number c =
    cond (eqb (refusal_of s.state c) 0) (answer_of 0 (kept_of s (step_of s.state c) number c)) (answer_of (refusal_of s.state c) s)

-- a repeat changes nothing; "every refusal hands back the record that came in"
unfoldable pub served_of : Numbered → ℕ → Command → Found → Delivered
served_of s number c Old = answer_of 1 s
served_of s number c Reused = answer_of 2 s
served_of s number c (Repeated e) = repeat_of number e s
served_of s number c Ahead = answer_of 3 s
served_of s number c Next = try_of s number c

-- "Order: 10; then 1, 2, 3; then content"
unfoldable pub delivered_of : Numbered → ℕ → Command → Delivered
delivered_of s number c = cond (valid_of s) (served_of s number c (found_of s.memory number c)) (broken_of s)

-- ---- the two ways of a delivery, each with the loop's own state rules

unfoldable pub settled_of : Numbered → Delivered → Delivered
settled_of s answer = cond (valid s.state) answer (broken_of s)

unfoldable pub tried_of : Numbered → ℕ → Command → Delivered
tried_of s number c = cond (valid s.state) (try_of s number c) (broken_of s)
