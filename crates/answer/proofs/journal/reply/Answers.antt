use mathlib.Core.Path.{refl}
use mathlib.Core.List.{◌++◌}
use native.Mathlib.Omega.{arith}
use lib.ListN.{length}
use mir.Syntax.{w32}
use mir.Val.{SFits}
use mir.Facts.{to_z-of_z}
use Rattle.word.proofs.Puts.{Puts, puts_none, puts_more, puts_all}
use Rattle.refusal.specs.Refusal.{code_in}
use Rattle.answer.specs.Journal.{answer_text}
use Rattle.answer.proofs.Verdicts.{judges_answered}
use borrow.Author.Rules.{rules}
use Rattle.answer.proofs.journal.reply.Goals as goal

pub returns : goal.returns
returns c =
    let d = c.args.told in
    let f : SFits w32 d.output = search rules in
    let e = rw (to_z-of_z f, c.code-code.ensures) at c.put_answer-len.ensures.value in
    let g = rw (to_z-of_z f, c.code-code.ensures) at c.put_answer-len.ensures.out_after in
    let w = c.args.line.now in
    let t = answer_text (code_in d.outcome) d.output d.number in
    let q : Puts c.args.out.now 0 w _ (length w) = puts_more puts_none w c.put.ensures (omega arith) in
    let p = puts_all (puts_more q t g e.0) (w ++ t) refl in
    judges_answered d.state (w ++ t) p e.1
