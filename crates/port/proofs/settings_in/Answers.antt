use borrow.Author.Tests.{eq-eqb, ne_eqb}
use lib.ListN.{length}
use Rattle.settings.specs.Table.{lines}
use Rattle.port.specs.Port.{settings_in}
use Rattle.port.proofs.settings_in.Goals as goal

pub returns-in-Ok : goal.returns-in-Ok
unfolding settings_in
returns-in-Ok c =
    let h = c.in-Ok.ensures.1 in
    rw (eq-eqb (length c.args.values.now) lines h.long, c.settings_of.ensures, h.same)

pub returns-in-Err : goal.returns-in-Err
unfolding settings_in
returns-in-Err c = rw (ne_eqb (length c.args.values.now) lines c.in-Err.ensures.1)
