-- DEMAND 3. "Start a loop from accepted settings and deliver any list at all: repeats, old numbers, gaps, reused numbers, bad
-- values. Walk the list, keeping a delivery when its number is one more than the count kept so far and the law accepts its
-- content in the state reached. The end state is the law's after the kept commands, each given once. A kept delivery gets
-- the law's output, an exact repeat of the latest kept one gets that same answer, and every other gets its named refusal."
-- 02's request 6 amends "latest": an exact repeat of any of the last 32 kept ones gets its first answer.
--
-- The walk stands in memory/specs/Walk.antt, over any law; here are 01's plain law, what `deliver` makes of a list, and the
-- demand itself.
use Rattle.std.specs.Prelude.{ℕ, ◌+◌, ◌-◌, ◌≡◌, List, [], ◌∷◌, Option, Some, None, ℤ, length, take}
use Rattle.command.specs.declared.Command.{Command}
use Rattle.command.specs.Command.{same}
use Rattle.record.specs.declared.Loop.{Loop}
use Rattle.record.specs.Refusals.{refusal_of}
use Rattle.pid.specs.Law.{step_of}
use Rattle.command.specs.Sequence.{after, each}
use Rattle.memory.specs.declared.Entry.{Entry}
use Rattle.memory.specs.Memory.{window, entry_of, newest}
use Rattle.memory.specs.Walk.{Law, Delivery, Answer, Kept, Walk, onward, answer_to, kept}
use Rattle.delivery.specs.declared.numbered.Numbered.{Numbered}
use Rattle.delivery.specs.Numbered.{Delivered, record_of, delivered_of}

-- 01's loop: "The plain law knows no numbers."
abbrev pub plain : Law
plain = record {
  State = Loop;
  Command = Command;
  Output = ℤ;
  same = same;
  refusal = refusal_of;
  step = step_of;
  output = λ l. l.u;
}

-- the answer in what `deliver` returns
abbrev pub answer_in : Delivered → Answer ℤ
answer_in r = record { code = r.code; output = r.output; number = r.number }

-- what a delivery is answered, and the record that it hands back
abbrev pub answered : Numbered → Delivery Command → Answer ℤ
answered s d = answer_in (delivered_of s d.number d.command)

abbrev pub handed_back : Numbered → Delivery Command → Numbered
handed_back s d = (delivered_of s d.number d.command).state

-- kept commands "with the output each was answered", oldest first
abbrev pub kept_entries : Loop → List Command → List Entry
kept_entries l cs = each step_of (λ (m : Loop) (c : Command). entry_of c (step_of m c).u) l cs

-- a record once these commands are kept: the law's state after them, each given once; their count above the last number; the last 32
-- of those remembered and them
abbrev pub after_kept : Numbered → List Command → Numbered
after_kept s cs =
    record_of (after step_of s.state cs) (s.memory.number + length cs) (take window (newest s.memory.entries (kept_entries s.state cs)))

-- DEMAND 3 of the deliveries ds to a record s, by the walk from w on
pub record Demand3 (s : Numbered) (w : Walk plain) (ds : List (Delivery Command)) : Type 0 where
  -- "The end state is the law's after the kept commands, each given once."
  pub end_state : after handed_back s ds ≡ after_kept s (kept plain window w ds)
  -- "A kept delivery gets the law's output, an exact repeat of [any of the last 32] gets that same answer, and every other gets its
  -- named refusal."
  pub answers : each handed_back answered s ds ≡ each (onward plain window) (answer_to plain window) w ds

-- ---- where a walk stands that has come to a record that keeps the state rules, also to one never reached

-- an entry of number m as a kept delivery with its answer, before those that are older
abbrev pub recalled_by : Option Command → ℤ → ℕ → List (Kept plain) → List (Kept plain)
recalled_by None output m older = []
recalled_by (Some c) output m older =
    record { sent = record { number = m; command = c }; answer = record { code = 0; output = output; number = m } } ∷ older

-- the last kept deliveries, as a memory whose newest has number m remembers them
unfoldable pub recalled : ℕ → List Entry → List (Kept plain)
recalled m [] = []
recalled m (e ∷ es) = recalled_by e.command e.output m (recalled (m - 1) es)

abbrev pub standing : Numbered → Walk plain
standing s = record { state = s.state; count = s.memory.number; recent = recalled s.memory.number s.memory.entries }

abbrev pub kept_on : Numbered → List (Delivery Command) → List Command
kept_on s ds = kept plain window (standing s) ds
