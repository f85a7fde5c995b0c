use mathlib.Core.Path.{sym, ◌∙◌}
use borrow.Author.Tests.{eq-eqb, ne_eqb}
use Rattle.whole.proofs.Truth.{so}
use Rattle.refusal.proofs.promises.Codes.{refused_not_0}
use Rattle.pid.specs.Law.{law_of}
use Rattle.pid.proofs.law.obey.Goals as goal

pub returns-then-not-is_valid : goal.returns-then-not-is_valid
unfolding law_of
returns-then-not-is_valid c =
    rw (so c.is_valid.ensures c.if-not-is_valid.true)

pub returns : goal.returns
unfolding law_of
returns c =
    rw (so c.is_valid.ensures c.if-not-is_valid.false, eq-eqb _ _ (sym c.in_default.ensures), c.step.ensures)

pub returns-in-Err : goal.returns-in-Err
unfolding law_of
returns-in-Err c =
    rw (so c.is_valid.ensures c.if-not-is_valid.false, ne_eqb _ _ (λ q. refused_not_0 _ (c.in-Err.ensures ∙ q)), ← c.in-Err.ensures)
