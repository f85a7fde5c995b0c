-- 01, "Replay": a list of samples, delivered in order from a first number on, with a list whose front takes the outputs.
use Rattle.std.specs.Prelude.{ℕ, ◌+◌, ◌-◌, cond, ◌||◌, List, [], ◌∷◌, map, Result, Ok, Err, eqb, ltb, leb, ℤ, length}
use Rattle.refusal.specs.Refusal.{code_for}
use Rattle.temperature.specs.declared.Bad.{Bad}
use Rattle.temperature.specs.Temperature.{first_bad, first_code}
use Rattle.window.specs.Means.{front_filled}
use Rattle.command.specs.declared.Command.{Command}
use Rattle.command.specs.declared.Command.TheVariants.{Sample}
use Rattle.record.specs.Record.{guard_of, valid}
use Rattle.pid.specs.Play.{placed}
use Rattle.command.specs.Sequence.{after, each}
use Rattle.memory.specs.Memory.{last_number}
use Rattle.memory.specs.Walk.{Delivery, Answer}
use Rattle.delivery.specs.declared.numbered.Numbered.{Numbered}
use Rattle.delivery.specs.declared.replay.Replayed.{Replayed as Replaying}
use Rattle.delivery.specs.Numbered.{memory_ok, valid_of}
use Rattle.delivery.specs.Demand3.{handed_back, answered}

-- ---- "delivering the n samples in order"

unfoldable pub numbered : ℕ → List ℤ → List (Delivery Command)
numbered number [] = []
numbered number (pv ∷ pvs) = record { number = number; command = Sample pv } ∷ numbered (number + 1) pvs

-- the record and the outputs
abbrev pub record_after : Numbered → ℕ → List ℤ → Numbered
record_after s first samples = after handed_back s (numbered first samples)

abbrev pub delivered_outputs : Numbered → ℕ → List ℤ → List ℤ
delivered_outputs s first samples = map (λ (a : Answer ℤ). a.output) (each handed_back answered s (numbered first samples))

-- ---- what is refused

abbrev pub numbers_left : Numbered → ℕ
numbers_left s = last_number - s.memory.number

-- "Order: 10; first number 0 or at most last: 1; above last + 1: 3; 12; 13; then 4", or 19. room is the output list's length
--   12: "output list shorter than samples"
--   13: "more samples than numbers left"
unfoldable pub replay_refusal : Numbered → ℕ → List ℤ → ℕ → ℕ
replay_refusal s first samples room =
    cond (valid_of s)
    (cond (eqb first 0 || leb first s.memory.number) 1
    (cond (ltb (s.memory.number + 1) first) 3
    (cond (ltb room (length samples)) 12
    (cond (ltb (numbers_left s) (length samples)) 13
    (first_code (guard_of s.state) samples)))))
    10

-- what the numbers and the places alone refuse of that: 1; 3; 12; 13
unfoldable pub numbers_refusal : Numbered → ℕ → ℕ → ℕ → ℕ
numbers_refusal s first count room =
    cond (eqb first 0 || leb first s.memory.number) 1
    (cond (ltb (s.memory.number + 1) first) 3
    (cond (ltb room count) 12
    (cond (ltb (numbers_left s) count) 13 0)))

-- the same, with 10 before it. Where nothing is refused here, the loop's own state rules are the law's to test
unfoldable pub admission : Numbered → ℕ → ℕ → ℕ → ℕ
admission s first count room =
    cond (memory_ok s)
    (cond (eqb (numbers_refusal s first count room) 0) 0 (cond (valid s.state) (numbers_refusal s first count room) 10))
    10

-- ---- what comes back

-- what a replay tells
pub record Replayed : Type 0 where
  pub code : ℕ
  pub place : ℕ
  pub count : ℕ
  pub state : Numbered

abbrev pub code_told : Result ℕ Bad → ℕ
code_told (Ok count) = 0
code_told (Err bad) = code_for bad.refusal

abbrev pub place_told : Result ℕ Bad → ℕ
place_told (Ok count) = 0
place_told (Err bad) = bad.place

abbrev pub count_told : Result ℕ Bad → ℕ
count_told (Ok count) = count
count_told (Err bad) = 0

abbrev pub replayed_told : Replaying → Replayed
replayed_told r = record {
  code = code_told r.outcome;
  place = place_told r.outcome;
  count = count_told r.outcome;
  state = r.state;
}

-- and where the record that n samples leave comes back alone; s is the one that came in
abbrev pub left_told : Numbered → ℕ → Result Numbered Bad → Replayed
left_told s n (Ok t) = record { code = 0; place = 0; count = n; state = t }
left_told s n (Err bad) = record { code = code_for bad.refusal; place = bad.place; count = 0; state = s }

-- "On success the record and outputs are those of delivering the n samples in order; [..] and the count is n."
abbrev pub done_of : Numbered → ℕ → List ℤ → Replayed
done_of s first samples = record { code = 0; place = 0; count = length samples; state = record_after s first samples }

-- "On a refusal neither record nor list changes, and the count is 0."
abbrev pub refused_of : Numbered → ℕ → ℕ → Replayed
refused_of s code place = record { code = code; place = place; count = 0; state = s }

-- "the earliest bad sample is reported with its code and place" (02, request 8)
unfoldable pub replayed_of : Numbered → ℕ → List ℤ → ℕ → Replayed
replayed_of s first samples room =
    let code = replay_refusal s first samples room in
    cond (eqb code 0) (done_of s first samples) (refused_of s code (placed code (first_bad (guard_of s.state) samples)))

-- what the output list holds afterwards: "the first n places hold the outputs, every later place keeps its number"
unfoldable pub written_of : Numbered → ℕ → List ℤ → List ℤ → List ℤ
written_of s first samples out =
    cond (eqb (replay_refusal s first samples (length out)) 0) (front_filled (delivered_outputs s first samples) out) out
