use mathlib.Core.Path.{sym, ◌∙◌}
use borrow.Author.Tests.{eq-eqb, ne_eqb}
use Rattle.refusal.proofs.promises.Codes.{refused_not_0}
use Rattle.record.specs.Record.{made_of}
use Rattle.record.proofs.Loop.make.Goals as goal

pub returns-in-Ok : goal.returns-in-Ok
unfolding made_of
returns-in-Ok c = rw (eq-eqb _ _ (sym c.in-Ok.ensures), c.fresh.ensures)

pub returns-in-Err : goal.returns-in-Err
unfolding made_of
returns-in-Err c =
    rw (ne_eqb _ _ (λ q. refused_not_0 _ (c.in-Err.ensures ∙ q)), ← c.in-Err.ensures, c.blank.ensures)
