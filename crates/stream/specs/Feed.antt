-- A file, byte by byte and in pieces: what is left of the run, and every byte that is written.
use Rattle.std.specs.Prelude.{ℕ, ◌+◌, ◌/◌, ◌≤◌, ◌≡◌, Bool, true, false, cond, not, ◌&&◌, ◌||◌, List, [], ◌∷◌, ◌++◌, eqb, ltb, leb, length, take, drop, Result, Ok, Err}
use Rattle.word.specs.End.{feed}
use Rattle.answer.specs.Judge.{judged_by}
use Rattle.stream.specs.Part.{line_most, with_more}
use Rattle.stream.specs.declared.run.Run.{Run}
use Rattle.stream.specs.declared.run.Told.{Told}
use Rattle.stream.specs.Run.{Step, line_room, refusing, word_of, line_step, with_part, keeping}

-- ---- one byte

-- a line feed ends the line under way
unfoldable pub judging : Run → Step
judging r = cond (ltb line_most r.part.len) (refusing r 14) (line_step r (judged_by r.lines r.state (word_of r)))

-- nothing, where the run has ended
abbrev pub idle : Run → Step
idle r = record { run = r; text = [] }

unfoldable pub byte_of : Run → ℕ → Step
byte_of r b = cond r.ended (idle r) (cond (eqb b feed) (judging r) (keeping r b))

-- ---- a text of bytes

abbrev pub after : Run → List ℕ → Run
after r [] = r
after r (b ∷ s) = after (byte_of r b).run s

abbrev pub written : Run → List ℕ → List ℕ
written r [] = []
written r (b ∷ s) = (byte_of r b).text ++ written (byte_of r b).run s

abbrev pub passing : Run → List ℕ → Step
passing r s = record { run = after r s; text = written r s }

-- ---- a line at once: what its bytes do one by one

-- no line feed among these bytes
abbrev pub plain : List ℕ → Bool
plain [] = true
plain (b ∷ w) = not (eqb b feed) && plain w

-- the line under way with more bytes of it
abbrev pub grown_of : Run → List ℕ → Run
grown_of r w = with_part r (with_more r.part w)

-- the next bytes of a line, and its line feed where that has come
unfoldable pub line_of : Run → List ℕ → Bool → Step
line_of r w fed =
    cond r.ended (idle r)
    (cond (ltb line_most (r.part.len + length w)) (refusing r 14)
    (cond fed (line_step r (judged_by r.lines r.state (word_of (grown_of r w)))) (idle (grown_of r w))))

-- ---- the end of the file

-- "a last one without its line feed, is 14"
unfoldable pub finishing : Run → Step
finishing r = cond (r.ended || eqb r.part.len 0) (idle r) (refusing r 14)

-- ---- in a lent buffer, which has room or else nothing is done

-- what comes back: whether the buffer had room, the run, and how many bytes from the buffer's first on are to be written
pub record Ran : Type 0 where
  pub done : Bool
  pub run : Run
  pub len : ℕ

-- the program hands back the run that came in where there was no room
abbrev pub ran_told : Result Told Run → Ran
ran_told (Ok t) = record { done = true; run = t.run; len = t.len }
ran_told (Err r) = record { done = false; run = r; len = 0 }

abbrev pub ran_of : Bool → Run → Step → Ran
ran_of room r s = cond room (record { done = true; run = s.run; len = length s.text }) (record { done = false; run = r; len = 0 })

-- the text stands from the buffer's first byte on, and the bytes after it stay
abbrev pub out_of : Bool → List ℕ → List ℕ → List ℕ
out_of room text out = cond room (text ++ drop (length text) out) out

-- n counts bytes of a list from its first on
abbrev pub Counts : ℕ → List ℕ → Type 0
Counts n l = (n ≤ length l) × (n ≡ length (take n l))

abbrev pub room_for : List ℕ → ℕ → Bool
room_for piece n = leb (length piece) (n / line_room)

abbrev pub fed_of : Run → List ℕ → ℕ → Ran
fed_of r piece n = ran_of (room_for piece n) r (passing r piece)

abbrev pub out_fed : Run → List ℕ → List ℕ → List ℕ
out_fed r piece out = out_of (room_for piece (length out)) (written r piece) out

abbrev pub finished_of : Run → ℕ → Ran
finished_of r n = ran_of (leb line_room n) r (finishing r)

abbrev pub out_finished : Run → List ℕ → List ℕ
out_finished r out = out_of (leb line_room (length out)) (finishing r).text out
