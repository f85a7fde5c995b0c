use mathlib.Core.Path.{sym, ap, ◌∙◌}
use mathlib.Core.List.{[]}
use borrow.Author.Tests.{eq-eqb, ne_eqb}
use Rattle.whole.proofs.Truth.{cond_yes, cond_no}
use Rattle.refusal.specs.Refusal.{code_for, code_in}
use Rattle.refusal.proofs.promises.Codes.{refused_not_0}
use Rattle.stream.specs.declared.run.Run.{Run}
use Rattle.stream.specs.Run.{Step, refusing}
use Rattle.stream.specs.Start.{first_loop, start_of, begun_by}
use Rattle.stream.proofs.Steps.{step_by, step_quiet}
use Rattle.stream.proofs.start.begun.Goals as goal

pub returns-in-Ok : goal.returns-in-Ok
unfolding begun_by
returns-in-Ok c =
    let j = c.args.lines in
    let t : Step = record { run = start_of j 1 (first_loop j c.args.read.settings); text = [] } in
    step_by (cond_yes _ _ (eq-eqb _ _ (ap code_in c.in-Ok.is))) (step_quiet (c.start.ensures ∙ ap (start_of j 1) c.first_loop.ensures))

pub returns-in-Err : goal.returns-in-Err
unfolding begun_by
returns-in-Err c =
    let e = c.start-in-Err.ensures ∙ ap (start_of c.args.lines c.args.read.line) c.blank.ensures in
    let q = ap code_in c.in-Err.is in
    step_by
    (cond_no _ _ (ne_eqb _ 0 (λ z. refused_not_0 c.in-Err.refusal (sym q ∙ z)))
    ∙ ap (refusing (start_of c.args.lines c.args.read.line _)) q ∙ sym (ap (λ (x : Run). refusing x (code_for c.in-Err.refusal)) e))
    c.refuse.ensures
