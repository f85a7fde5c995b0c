-- 01, "Numbered delivery", amended by 02's request 6: what is remembered, and the order of the numbers. No loop is looked into
-- here.
use Rattle.std.specs.Prelude.{ℕ, ◌+◌, ◌-◌, Bool, true, false, not, cond, ◌&&◌, ◌||◌, List, [], ◌∷◌, Option, Some, None, eqb, ltb, leb, ℤ, pos, length, take, get_or, replicate}
use Rattle.whole.specs.Numbers.{eq_z, inside}
use Rattle.command.specs.declared.Command.{Command}
use Rattle.command.specs.declared.Command.TheVariants.{Sample}
use Rattle.command.specs.Command.{same}
use Rattle.memory.specs.declared.Entry.{Entry}
use Rattle.memory.specs.declared.Memory.{Memory}
use Rattle.memory.specs.declared.Found.{Found}
use Rattle.memory.specs.declared.Found.TheVariants.{Old, Reused, Repeated, Ahead, Next}

-- a number is "32 bits unsigned": 4,294,967,295 is the last
abbrev pub last_number : ℕ
last_number = 4294967295

-- ---- what is remembered

-- "Keep the last 32 kept commands with the output each was answered."
unfoldable pub window : ℕ
window = 32

abbrev pub entry_of : Command → ℤ → Entry
entry_of c output = record { command = Some c; output = output }

-- "unused places are blank"
abbrev pub no_entry : Entry
no_entry = record { command = None; output = pos 0 }

-- "last number 0", and no command is kept
abbrev pub no_memory : Memory
no_memory = record { number = 0; entries = replicate window no_entry }

-- entries that come before old ones, oldest first: the last of them stands first
abbrev pub newest : List Entry → List Entry → List Entry
newest old [] = old
newest old (e ∷ es) = newest (e ∷ old) es

-- "accepted, the number and command are remembered", with the output; the oldest leaves
unfoldable pub remembered : Memory → ℕ → Command → ℤ → Memory
remembered m number c output = record { number = number; entries = take window (entry_of c output ∷ m.entries) }

-- "Replayed samples enter the window too": each with the output of its place, oldest first
abbrev pub entries_of : List ℤ → List ℤ → List Entry
entries_of [] us = []
entries_of (pv ∷ pvs) [] = []
entries_of (pv ∷ pvs) (u ∷ us) = entry_of (Sample pv) u ∷ entries_of pvs us

unfoldable pub filled_of : Memory → ℕ → List ℤ → List ℤ → Memory
filled_of m number pvs us = record { number = number; entries = take window (newest m.entries (entries_of pvs us)) }

-- ---- the state rules

-- a place that is used: it has a command, and "their outputs lie in lo..hi". One that is not: "unused places are blank"
abbrev pub holds_ok : Bool → ℤ → ℤ → Option Command → ℤ → Bool
holds_ok used lo hi None output = not used && eq_z output (pos 0)
holds_ok used lo hi (Some c) output = used && inside lo hi output

abbrev pub entry_ok : Bool → ℤ → ℤ → Entry → Bool
entry_ok used lo hi e = holds_ok used lo hi e.command e.output

-- the places from the one of number n on: "it holds as many entries as the smaller of 32 and the last number". An entry's number is
-- told by its place, so "their numbers run up to the last"
abbrev pub entries_ok : ℕ → ℤ → ℤ → List Entry → Bool
entries_ok n lo hi [] = true
entries_ok n lo hi (e ∷ es) = entry_ok (ltb 0 n) lo hi e && entries_ok (n - 1) lo hi es

-- the memory's state rules beside a loop with limits lo and hi. That there are 32 places is the type's to say, and said here for all
-- that is shown of a record that keeps the rules
unfoldable pub memory_ok : ℤ → ℤ → Memory → Bool
memory_ok lo hi m = eqb (length m.entries) window && entries_ok m.number lo hi m.entries

-- ---- what becomes of a delivery

-- whether c is the command kept, with same values
unfoldable pub is_last : Option Command → Command → Bool
is_last None c = false
is_last (Some d) c = same d c

-- of the entry that a number in the window has:
--   Repeated: "A repeat of any of them, same number and values"
--   Reused, code 2: "A number in that window with other values is 2"
unfoldable pub found_in : Entry → Command → Found
found_in e c = cond (is_last e.command c) (Repeated e) Reused

-- "then 1, 2, 3; then content":
--   Old, code 1: number 0, or "older" than the window
--   Ahead, code 3: "number above last + 1"
--   Next: "Number = last + 1: the law is tried"
unfoldable pub found_by : ℕ → ℕ → Found → Found
found_by number last found =
    cond (eqb number 0 || leb (number + window) last) Old
    (cond (leb number last) found
    (cond (ltb (last + 1) number) Ahead Next))

-- the entry of a number in the window
abbrev pub entry_at : Memory → ℕ → Entry
entry_at m number = get_or m.entries (m.number - number) no_entry

abbrev pub found_of : Memory → ℕ → Command → Found
found_of m number c = found_by number m.number (found_in (entry_at m number) c)
