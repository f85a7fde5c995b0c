-- 01, "What is built": the program that writes the outputs of samples. What becomes of one line of the file.
use Rattle.std.specs.Prelude.{ℕ, ◌+◌, cond, List, ◌++◌, eqb, ℤ, Option, Some, None}
use Rattle.command.specs.declared.Command.TheVariants.{Sample}
use Rattle.delivery.specs.declared.numbered.Numbered.{Numbered}
use Rattle.memory.specs.Memory.{last_number}
use Rattle.delivery.specs.Numbered.{Delivered, delivered_of}
use Rattle.word.specs.Decimal.{decimal, decimal_of}
use Rattle.whole.specs.Words.{bytes}
use Rattle.answer.specs.Verdict.{Verdict, refused, answered}

-- "delivers [..] the samples from number 2 on": each under the number after the last
abbrev pub sampled_of : Numbered → ℤ → Delivered
sampled_of l pv = delivered_of l (l.memory.number + 1) (Sample pv)

-- "writes each output as a decimal and a line feed"
abbrev pub output_line : ℤ → List ℕ
output_line output = decimal output ++ bytes "\n"

-- an accepted sample is answered, a refused one ends the run
unfoldable pub by_answer : Delivered → Verdict
by_answer d = cond (eqb d.code 0) (answered d.state (output_line d.output)) (refused d.state d.code)

-- "else a sample past the last number is 13, and one out of range 4", or 19 where it jumps
unfoldable pub by_sample : Numbered → ℤ → Verdict
by_sample l pv = cond (eqb l.memory.number last_number) (refused l 13) (by_answer (sampled_of l pv))

-- "A malformed sample line [..] is 14"
abbrev pub by_decimal : Numbered → Option ℤ → Verdict
by_decimal l (Some pv) = by_sample l pv
by_decimal l None = refused l 14

-- "The sample file has the settings' decimal form"
unfoldable pub sample_line : Numbered → List ℕ → Verdict
sample_line l w = by_decimal l (decimal_of w)
