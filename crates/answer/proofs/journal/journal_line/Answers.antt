use mathlib.Core.Path.{sym, ap, ◌∙◌}
use Rattle.answer.specs.Journal.{journal_answer, by_delivery, journal_line}
use Rattle.answer.proofs.Verdicts.{judges_by, judges_refused}
use Rattle.answer.proofs.journal.journal_line.Goals as goal

pub returns-in-None : goal.returns-in-None
unfolding journal_line
returns-in-None c =
    judges_by (ap (by_delivery c.args.state c.args.line.now) (sym c.parse.ensures ∙ c.in-None.is)) judges_refused

pub returns-in-Some : goal.returns-in-Some
unfolding journal_line
returns-in-Some c =
    let w = c.args.line.now in
    judges_by
    (ap (by_delivery c.args.state w) (sym c.parse.ensures ∙ c.in-Some.is) ∙ ap (journal_answer w) (sym c.deliver-told.ensures))
    c.reply.ensures
