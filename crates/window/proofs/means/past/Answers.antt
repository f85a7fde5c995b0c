use mathlib.Core.Path.{sym, ◌∙◌}
use mir.Syntax.{w32}
use Rattle.whole.proofs.Bits.{back}
use Rattle.window.proofs.Taken.{past_new, past_old}
use Rattle.window.proofs.means.past.Goals as goal

pub returns-then-j-n : goal.returns-then-j-n
returns-then-j-n c =
    let a = c.args in
    back w32 _ c.result-1.given ∙ sym (past_new a.places.now a.samples.now a.n a.j c.if-j-n.true)

pub returns : goal.returns
returns c =
    let a = c.args in
    back w32 _ c.result-2-1.given ∙ sym (past_old a.places.now a.samples.now a.n a.j c.if-j-n.false)
