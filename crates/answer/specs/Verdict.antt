-- What a line of a file comes to.
use Rattle.std.specs.Prelude.{ℕ, ◌+◌, ◌≤◌, ◌≡◌, List, [], length, Result, Ok, Err}
use Rattle.std.proofs.lemmas.List.Edits.{sets}
use Rattle.delivery.specs.declared.numbered.Numbered.{Numbered}
use Rattle.refusal.specs.declared.Refusal.{Refusal}
use Rattle.refusal.specs.Refusal.{code_for}
use Rattle.answer.specs.declared.verdict.Answered.{Answered}

-- the loop that the line leaves and the text that answers it, or the code that refuses it
pub record Verdict : Type 0 where
  pub code : ℕ
  pub state : Numbered
  pub text : List ℕ

abbrev pub refused : Numbered → ℕ → Verdict
refused l code = record { code = code; state = l; text = [] }

abbrev pub answered : Numbered → List ℕ → Verdict
answered l text = record { code = 0; state = l; text = text }

-- the same with its text in a lent buffer
pub record Judged : Type 0 where
  pub code : ℕ
  pub state : Numbered
  pub len : ℕ

-- what the program answers of a line to the loop l; a refused line leaves it
abbrev pub judged_told : Numbered → Result Answered Refusal → Judged
judged_told l (Ok a) = record { code = 0; state = a.state; len = a.len }
judged_told l (Err r) = record { code = code_for r; state = l; len = 0 }

abbrev pub judged_of : Verdict → Judged
judged_of v = record { code = v.code; state = v.state; len = length v.text }

-- how much longer than its line an answer is at most: ` code=` and 3 digits, ` output=` and 11 bytes, ` last=` and 10 digits,
-- a line feed
abbrev pub answer_room : ℕ
answer_room = 45

-- what a function that judges a line answers, and what the buffer then holds; most bounds the line where it stands in the answer
pub record Judges (most : ℕ) (v : Verdict) (before : List ℕ) (r : Judged) (after : List ℕ) : Type 0 where
  pub is : r ≡ judged_of v
  pub holds : after ≡ sets before 0 v.text
  pub few : r.len ≤ most + answer_room
