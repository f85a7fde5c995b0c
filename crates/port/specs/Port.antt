-- A replay from a loop made of settings' values: automatic, with a gain set and a target, after a sample and perhaps a hold. And a
-- delivery after a replay, from a loop that remembers what it is told to.
use Rattle.std.specs.Prelude.{ℕ, cond, List, Result, Ok, Err, eqb, ℤ, pos, length}
use Rattle.whole.specs.Numbers.{eq_z}
use Rattle.refusal.specs.declared.Refusal.{Refusal}
use Rattle.refusal.specs.declared.Refusal.TheVariants.{SettingOutside}
use Rattle.settings.specs.declared.Settings.{Settings}
use Rattle.settings.specs.Table.{lines}
use Rattle.settings.specs.Settings.{settings_of}
use Rattle.command.specs.declared.Command.TheVariants.{Sample, Hold, Automatic, Set, Target}
use Rattle.memory.specs.Memory.{no_memory, filled_of}
use Rattle.delivery.specs.declared.numbered.Numbered.{Numbered}
use Rattle.delivery.specs.Numbered.{Delivered, made_of, delivered_of}
use Rattle.delivery.specs.Replay.{replayed_of, written_of}

-- the settings of a list that has as many values as settings have; 11 for any other
unfoldable pub settings_in : List ℤ → Result Settings Refusal
settings_in values = cond (eqb (length values) lines) (Ok (settings_of values)) (Err SettingOutside)

-- automatic, the set, and the target at the settings' rate, delivered as numbers 1 to 3
abbrev pub automatic_of : Settings → Numbered
automatic_of s = (delivered_of (made_of s).state 1 Automatic).state

abbrev pub chosen_of : Settings → ℤ → Numbered
chosen_of s set = (delivered_of (automatic_of s) 2 (Set set)).state

abbrev pub aimed_of : Settings → ℤ → ℤ → Numbered
aimed_of s set target = (delivered_of (chosen_of s set) 3 (Target target s.rate)).state

-- the sample before the replay as number 4, and where it is held a hold as number 5
abbrev pub sampled_of : Settings → ℤ → ℤ → ℤ → Numbered
sampled_of s set target before = (delivered_of (aimed_of s set target) 4 (Sample before)).state

abbrev pub ready_of : Settings → ℤ → ℤ → ℤ → ℤ → Numbered
ready_of s set target before held =
    let sampled = sampled_of s set target before in
    cond (eq_z held (pos 0)) sampled (delivered_of sampled 5 Hold).state

-- 11 for a list that has not as many values as settings have, else the code of the replay
unfoldable pub code_of : List ℤ → ℤ → ℤ → ℤ → ℤ → ℕ → List ℤ → ℕ → ℤ
code_of values set target before held first samples room =
    cond (eqb (length values) lines) (pos (replayed_of (ready_of (settings_of values) set target before held) first samples room).code) (pos 11)

unfoldable pub place_of : List ℤ → ℤ → ℤ → ℤ → ℤ → ℕ → List ℤ → ℕ → ℕ
place_of values set target before held first samples room =
    cond (eqb (length values) lines) (replayed_of (ready_of (settings_of values) set target before held) first samples room).place 0

unfoldable pub out_of : List ℤ → ℤ → ℤ → ℤ → ℤ → ℕ → List ℤ → List ℤ → List ℤ
out_of values set target before held first samples out =
    cond (eqb (length values) lines) (written_of (ready_of (settings_of values) set target before held) first samples out) out

-- ---- a late delivery

-- the automatic loop with a last number, and samples, oldest first, each with the output at its place
abbrev pub remembering_of : Settings → ℕ → List ℤ → List ℤ → Numbered
remembering_of s last earlier answered = record { state = (automatic_of s).state; memory = filled_of no_memory last earlier answered }

-- samples are replayed, and then one is delivered
abbrev pub late_of : Numbered → ℕ → List ℤ → ℕ → ℕ → ℤ → Delivered
late_of start first samples room number value = delivered_of (replayed_of start first samples room).state number (Sample value)

-- 11, 0 and 0 for a list that has not as many values as settings have, else the answer of that delivery
unfoldable pub late_code : List ℤ → ℕ → List ℤ → List ℤ → ℕ → List ℤ → ℕ → ℕ → ℤ → ℤ
late_code values last earlier answered first samples room number value =
    cond (eqb (length values) lines) (pos (late_of (remembering_of (settings_of values) last earlier answered) first samples room number value).code) (pos 11)

unfoldable pub late_output : List ℤ → ℕ → List ℤ → List ℤ → ℕ → List ℤ → ℕ → ℕ → ℤ → ℤ
late_output values last earlier answered first samples room number value =
    cond (eqb (length values) lines) (late_of (remembering_of (settings_of values) last earlier answered) first samples room number value).output (pos 0)

unfoldable pub late_number : List ℤ → ℕ → List ℤ → List ℤ → ℕ → List ℤ → ℕ → ℕ → ℤ → ℕ
late_number values last earlier answered first samples room number value =
    cond (eqb (length values) lines) (late_of (remembering_of (settings_of values) last earlier answered) first samples room number value).number 0

unfoldable pub late_out : List ℤ → ℕ → List ℤ → List ℤ → ℕ → List ℤ → List ℤ → List ℤ
late_out values last earlier answered first samples out =
    cond (eqb (length values) lines) (written_of (remembering_of (settings_of values) last earlier answered) first samples out) out
