-- 01, "The law", code 4, and 02, request 8, code 19: which raw temperatures are refused, one by one and in a list.
use Rattle.std.specs.Prelude.{ℕ, zero, suc, Bool, true, cond, ◌&&◌, ◌||◌, List, [], ◌∷◌, eqb, ℤ, pos, ◌-ℤ◌, get_or, Result, Ok, Err}
use Rattle.std.specs.Int.Signed.{lt_z}
use Rattle.std.specs.Bool.{⊤}
use Rattle.whole.specs.Numbers.{size, eq_z}
use Rattle.refusal.specs.Refusal.{code_for}
use Rattle.settings.specs.Table.{in_reach}
use Rattle.temperature.specs.declared.Guard.{Guard}
use Rattle.temperature.specs.declared.Bad.{Bad as Earliest}

-- ---- the state rule: "The last kept raw temperature joins the record, within ±1,000,000, and 0 while not primed."

abbrev pub raw_ok : Bool → ℤ → Bool
raw_ok primed raw = in_reach raw && (primed || eq_z raw (pos 0))

-- ---- one temperature

-- "further than jump from the last kept raw temperature": exactly jump away is not
abbrev pub further : ℤ → ℤ → ℤ → Bool
further jump raw pv = lt_z jump (pos (size (pv -ℤ raw)))

-- "In automatic, a sample further than jump from the last kept raw temperature is refused"; "Manual mode and the first sample are
-- exempt", the first being the one that finds the loop not primed
abbrev pub jumps : Guard → ℤ → Bool
jumps g pv = g.automatic && g.primed && further g.jump g.raw pv

-- "4: pv outside ±1,000,000"; "code 19, tested after 4"; 0 where the sample is taken
unfoldable pub code_of : Guard → ℤ → ℕ
code_of g pv = cond (in_reach pv) (cond (jumps g pv) 19 0) 4

-- ---- a list of them, all of the same mode

-- "In a replay the test uses the sample before": what the sample after pv is held against
abbrev pub past : Guard → ℤ → Guard
past g pv = record { automatic = g.automatic; primed = true; jump = g.jump; raw = pv }

-- the place of the earliest bad sample, counted from 0; the length where none is bad
unfoldable pub first_bad : Guard → List ℤ → ℕ
first_bad g [] = 0
first_bad g (pv ∷ pvs) = cond (eqb (code_of g pv) 0) (suc (first_bad (past g pv) pvs)) 0

-- and its code; 0 where none is bad
unfoldable pub first_code : Guard → List ℤ → ℕ
first_code g [] = 0
first_code g (pv ∷ pvs) = cond (eqb (code_of g pv) 0) (first_code (past g pv) pvs) (code_of g pv)

-- "the earliest bad sample is reported with its code and place"; 0 and the length where none is bad
pub record Bad : Type 0 where
  pub code : ℕ
  pub place : ℕ

abbrev pub bad_of : Guard → List ℤ → Bad
bad_of g pvs = record { code = first_code g pvs; place = first_bad g pvs }

-- what the code tells of a list of n samples
abbrev pub bad_told : ℕ → Result ⊤ Earliest → Bad
bad_told n (Ok _) = record { code = 0; place = n }
bad_told n (Err e) = record { code = code_for e.refusal; place = e.place }

-- what sample i is held against: the first against what was before them all, and every other against the sample before it
abbrev pub held_against : Guard → List ℤ → ℕ → Guard
held_against g pvs zero = g
held_against g pvs (suc i) = past g (get_or pvs i (pos 0))

-- whether each of them lies within ±1,000,000
abbrev pub ranged : List ℤ → Bool
ranged [] = true
ranged (pv ∷ pvs) = in_reach pv && ranged pvs

-- the last kept raw temperature after them
unfoldable pub raw_after : ℤ → List ℤ → ℤ
raw_after raw [] = raw
raw_after raw (pv ∷ pvs) = raw_after pv pvs
