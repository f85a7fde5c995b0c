-- 01, the codes of what is wrong with a command's content: "then content, with 6 before 5 and 7 before 8".
use Rattle.std.specs.Prelude.{ℕ, ◌-◌, cond, ℤ, pos}
use Rattle.whole.specs.Numbers.{inside}
use Rattle.settings.specs.Table.{sets, in_reach}
use Rattle.command.specs.declared.Command.{Command}
use Rattle.command.specs.declared.Command.TheVariants.{Sample, Hold, Put, Automatic, Target, Set}
use Rattle.temperature.specs.Temperature.{code_of}
use Rattle.record.specs.declared.Loop.{Loop}
use Rattle.record.specs.Record.{in_rates, guard_of}

-- "4: pv outside ±1,000,000", and "code 4 tests the raw one"; "In automatic, a sample further than jump from the last kept raw
-- temperature is refused, code 19, tested after 4." (02, request 8)
abbrev pub sample_refusal : Loop → ℤ → ℕ
sample_refusal l pv = code_of (guard_of l) pv

-- "6: put while automatic", "5: put outside lo..hi"
abbrev pub put_refusal : Loop → ℤ → ℕ
put_refusal l x = cond l.automatic 6 (cond (inside l.settings.lo l.settings.hi x) 0 5)

-- "7: target outside ±1,000,000", "8: rate outside 1..2,000,000"
abbrev pub target_refusal : ℤ → ℤ → ℕ
target_refusal t r = cond (in_reach t) (cond (in_rates r) 0 8) 7

-- "9: no such gain set"
abbrev pub set_refusal : ℤ → ℕ
set_refusal k = cond (inside (pos 0) (pos (sets - 1)) k) 0 9

unfoldable pub refusal_of : Loop → Command → ℕ
refusal_of l (Sample pv) = sample_refusal l pv
refusal_of l Hold = 0
refusal_of l (Put x) = put_refusal l x
refusal_of l Automatic = 0
refusal_of l (Target t r) = target_refusal t r
refusal_of l (Set k) = set_refusal k
