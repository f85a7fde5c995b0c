-- What is carried from one piece of a file to the next, and what both programs do with a line.
use Rattle.std.specs.Prelude.{ℕ, ◌+◌, ◌≤◌, ◌≡◌, true, cond, List, [], ◌++◌, eqb, ltb, length}
use Rattle.std.proofs.lemmas.List.Edits.{sets}
use Rattle.delivery.specs.declared.numbered.Numbered.{Numbered}
use Rattle.word.specs.Decimal.{shown}
use Rattle.word.specs.Number.{highest}
use Rattle.whole.specs.Words.{bytes}
use Rattle.answer.specs.Verdict.{Verdict}
use Rattle.stream.specs.declared.part.Part.{Part}
use Rattle.stream.specs.Part.{line_most, no_part, held, with_byte}
use Rattle.stream.specs.declared.run.Run.{Run}
use Rattle.stream.specs.declared.run.Told.{Told}

-- what a step leaves, and what it writes
pub record Step : Type 0 where
  pub run : Run
  pub text : List ℕ

-- the same with its text in a lent buffer
abbrev pub told_of : Step → Told
told_of s = record { run = s.run; len = length s.text }

-- the room for what one byte of a file can make a program write
abbrev pub line_room : ℕ
line_room = 128

-- what a function that does a step answers, and what the buffer then holds; room bounds what it writes
pub record Tells (room : ℕ) (s : Step) (before : List ℕ) (r : Told) (after : List ℕ) : Type 0 where
  pub is : r ≡ told_of s
  pub holds : after ≡ sets before 0 s.text
  pub few : r.len ≤ room

-- ---- a refusal

abbrev pub refused_word : List ℕ
refused_word = bytes "refused "

-- "it writes `refused`, the code and the line, one space between, and a line feed"
unfoldable pub refused_line : ℕ → ℕ → List ℕ
refused_line code line = refused_word ++ (shown code ++ (bytes " " ++ (shown line ++ bytes "\n")))

-- ended, with no line under way
abbrev pub over_of : Run → Run
over_of r = record {
  ended = true;
  lines = r.lines;
  part = no_part;
  line = r.line;
  state = r.state;
}

-- "The first refusal ends it"
abbrev pub refusing : Run → ℕ → Step
refusing r code = record { run = over_of r; text = refused_line code r.line }

-- ---- the line under way

-- its bytes
abbrev pub word_of : Run → List ℕ
word_of r = held r.part

-- the line after a line. One past 4,294,967,295 keeps that number
abbrev pub following : ℕ → ℕ
following line = cond (ltb line highest) (line + 1) line

-- the next line begins, with the loop as this line left it
abbrev pub next_of : Run → Numbered → Run
next_of r l = record {
  ended = r.ended;
  lines = r.lines;
  part = no_part;
  line = following r.line;
  state = l;
}

-- what the verdict on a whole line leads to
abbrev pub line_step : Run → Verdict → Step
line_step r v = cond (eqb v.code 0) (record { run = next_of r v.state; text = v.text }) (refusing r v.code)

-- with these bytes of a line
abbrev pub with_part : Run → Part → Run
with_part r part = record {
  ended = r.ended;
  lines = r.lines;
  part = part;
  line = r.line;
  state = r.state;
}

abbrev pub kept_of : Run → ℕ → Run
kept_of r b = with_part r (with_byte r.part b)

-- a byte of the line under way; one past the room makes a line longer than any well-formed one: "malformed [..] is 14"
unfoldable pub keeping : Run → ℕ → Step
keeping r b = cond (ltb r.part.len line_most) (record { run = kept_of r b; text = [] }) (refusing r 14)
