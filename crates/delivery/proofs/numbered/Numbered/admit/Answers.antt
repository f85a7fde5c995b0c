use mathlib.Core.Path.{sym, ◌∙◌}
use borrow.Author.Tests.{eq-eqb, ne_eqb}
use Rattle.whole.proofs.Truth.{so}
use Rattle.refusal.proofs.promises.Codes.{refused_not_0}
use Rattle.delivery.specs.Replay.{admission}
use Rattle.delivery.proofs.numbered.Numbered.admit.Goals as goal

pub returns-then-not-remembers : goal.returns-then-not-remembers
unfolding admission
returns-then-not-remembers c = rw (so c.remembers.ensures c.if-not-remembers.true)

pub returns-in-Ok : goal.returns-in-Ok
unfolding admission
returns-in-Ok c = rw (so c.remembers.ensures c.if-not-remembers.false, eq-eqb _ 0 (sym c.in-Ok.ensures))

pub returns-in-Err : goal.returns-in-Err
unfolding admission
returns-in-Err c =
    let h = c.in-Err.ensures in
    rw (so c.remembers.ensures c.if-not-remembers.false, so c.is_valid.ensures c.if-is_valid.true, ne_eqb _ 0 (λ e. refused_not_0 c.in-Err.refusal (h ∙ e))) h

pub returns-in-Err-2 : goal.returns-in-Err-2
unfolding admission
returns-in-Err-2 c =
    let h = c.in-Err-2.ensures in
    rw (so c.remembers.ensures c.if-not-remembers.false, so c.is_valid.ensures c.if-is_valid.false, ne_eqb _ 0 (λ e. refused_not_0 c.in-Err-2.field-0 (h ∙ e)))
