-- 01, the table of codes, with 02's code 19: the number that the paper gives each refusal. "When an answer is an enum, a definition
-- gives this paper's number and values for each of its cases."
use Rattle.std.specs.Prelude.{ℕ, Result, Ok, Err}
use Rattle.std.specs.Bool.{⊤}
use Rattle.refusal.specs.declared.Refusal.{Refusal}
use Rattle.refusal.specs.declared.Refusal.TheVariants.{Old, Reused, Ahead, Temperature, PutOutside, PutInAutomatic, Target, Rate, NoSet, BrokenRecord, SettingOutside, ShortOutputs, ManySamples, WrongForm, ValueOutside, Limits, BytesLeft, ShortBuffer, Jump}

abbrev pub code_for : Refusal → ℕ
-- "number below last, or number 0", amended by 02's request 6: older than the last 32, or 0
code_for Old = 1
-- "number = last, at least 1, other command or value", amended: a number of the last 32
code_for Reused = 2
-- "number above last + 1"
code_for Ahead = 3
-- "pv outside ±1,000,000"
code_for Temperature = 4
-- "put outside lo..hi"
code_for PutOutside = 5
-- "put while automatic"
code_for PutInAutomatic = 6
-- "target outside ±1,000,000"
code_for Target = 7
-- "rate outside 1..2,000,000"
code_for Rate = 8
-- "no such gain set"
code_for NoSet = 9
-- "the loop record breaks a state rule"
code_for BrokenRecord = 10
-- "a settings record has a value outside its own range"
code_for SettingOutside = 11
-- "replay: output list shorter than samples"
code_for ShortOutputs = 12
-- "replay: more samples than numbers left"
code_for ManySamples = 13
-- "text: line of wrong form, with its line"
code_for WrongForm = 14
-- "text: value outside its range, with its line"
code_for ValueOutside = 15
-- "lo not below hi, or out outside lo..hi"
code_for Limits = 16
-- "text: bytes after the last line"
code_for BytesLeft = 17
-- "writer: buffer too short"
code_for ShortBuffer = 18
-- "a sample further than jump from the last kept raw temperature" (02, request 8)
code_for Jump = 19

-- the code of what became of a call: "0: done, or an exact repeat"
abbrev pub code_in : Result ⊤ Refusal → ℕ
code_in (Ok _) = 0
code_in (Err r) = code_for r
