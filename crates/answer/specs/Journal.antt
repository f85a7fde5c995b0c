-- The journal's answer to a delivery: its line grown by ` code=C output=U last=L`, "in that order, one space between, one line
-- feed at the end".
use Rattle.std.specs.Prelude.{ℕ, List, ◌++◌, ℤ, Option, Some, None}
use Rattle.whole.specs.Words.{bytes}
use Rattle.delivery.specs.declared.numbered.Numbered.{Numbered}
use Rattle.delivery.specs.Numbered.{Delivered, delivered_of}
use Rattle.delivery_line.specs.declared.Delivery.{Delivery}
use Rattle.delivery_line.specs.Line.{delivery_of}
use Rattle.word.specs.Decimal.{shown, decimal}
use Rattle.answer.specs.Verdict.{Verdict, refused, answered}

abbrev pub code_key : List ℕ
code_key = bytes " code="

abbrev pub output_key : List ℕ
output_key = bytes " output="

abbrev pub last_key : List ℕ
last_key = bytes " last="

unfoldable pub answer_text : ℕ → ℤ → ℕ → List ℕ
answer_text code output last = code_key ++ (shown code ++ (output_key ++ (decimal output ++ (last_key ++ (shown last ++ bytes "\n")))))

-- a delivery that the loop refuses is answered with its code, and the run goes on
abbrev pub journal_answer : List ℕ → Delivered → Verdict
journal_answer w d = answered d.state (w ++ answer_text d.code d.output d.number)

abbrev pub by_delivery : Numbered → List ℕ → Option Delivery → Verdict
by_delivery l w None = refused l 14
by_delivery l w (Some d) = journal_answer w (delivered_of l d.number d.command)

-- a malformed line is 14
unfoldable pub journal_line : Numbered → List ℕ → Verdict
journal_line l w = by_delivery l w (delivery_of w)
