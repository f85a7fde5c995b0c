use mathlib.Core.Path.{sym, ◌∙◌}
use Rattle.whole.proofs.Truth.{so}
use Rattle.memory.specs.declared.Found.TheVariants.{Old, Reused, Repeated, Ahead, Next}
use Rattle.delivery.specs.Numbered.{served_of, settled_of, tried_of}
use Rattle.delivery.proofs.Served.{broken_memory, by_number}
use Rattle.delivery.proofs.numbered.Numbered.deliver.Goals as goal

pub returns-then-not-remembers : goal.returns-then-not-remembers
returns-then-not-remembers c =
    c.answer.ensures ∙ broken_memory c.args.self c.args.number c.args.c (so c.remembers.ensures c.if-not-remembers.true)

pub returns-in-Old : goal.returns-in-Old
unfolding settled_of served_of
returns-in-Old c =
    c.settle.ensures ∙ by_number c.args.self c.args.number c.args.c (so c.remembers.ensures c.if-not-remembers.false) Old (sym c.in-Old.ensures)

pub returns-in-Reused : goal.returns-in-Reused
unfolding settled_of served_of
returns-in-Reused c =
    c.settle-in-Reused.ensures ∙ by_number c.args.self c.args.number c.args.c (so c.remembers.ensures c.if-not-remembers.false) Reused (sym c.in-Reused.ensures)

pub returns-in-Ahead : goal.returns-in-Ahead
unfolding settled_of served_of
returns-in-Ahead c =
    c.settle-in-Ahead.ensures ∙ by_number c.args.self c.args.number c.args.c (so c.remembers.ensures c.if-not-remembers.false) Ahead (sym c.in-Ahead.ensures)

pub returns-in-Repeated : goal.returns-in-Repeated
unfolding settled_of served_of
returns-in-Repeated c =
    c.again.ensures ∙ by_number c.args.self c.args.number c.args.c (so c.remembers.ensures c.if-not-remembers.false) (Repeated _) (sym c.in-Repeated.ensures)

pub returns-in-Next : goal.returns-in-Next
unfolding tried_of served_of
returns-in-Next c =
    c.attempt.ensures ∙ by_number c.args.self c.args.number c.args.c (so c.remembers.ensures c.if-not-remembers.false) Next (sym c.in-Next.ensures)
