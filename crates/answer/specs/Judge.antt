-- What each program makes of a line.
use Rattle.std.specs.Prelude.{ℕ, List}
use Rattle.delivery.specs.declared.numbered.Numbered.{Numbered}
use Rattle.answer.specs.declared.judge.Lines.{Lines}
use Rattle.answer.specs.declared.judge.Lines.TheVariants.{Samples, Deliveries}
use Rattle.answer.specs.Verdict.{Verdict}
use Rattle.answer.specs.Oven.{sample_line}
use Rattle.answer.specs.Journal.{journal_line}

-- a line is a sample, or a delivery
abbrev pub judged_by : Lines → Numbered → List ℕ → Verdict
judged_by Samples l w = sample_line l w
judged_by Deliveries l w = journal_line l w
