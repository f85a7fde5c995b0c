use Rattle.whole.proofs.Truth.{so}
use Rattle.delivery.specs.Numbered.{settled_of}
use Rattle.delivery.proofs.numbered.Numbered.settle.Goals as goal
use Rattle.delivery.proofs.numbered.Numbered.settle.Goals.{then-is_valid, else-is_valid}

pub returns : goal.returns
unfolding settled_of
returns c =
    elim c.if-is_valid.branch [
      | then-is_valid w ↦ rw (so c.is_valid.ensures w.if-is_valid.true) (rw w.first-is at c.answer.ensures)
      | else-is_valid w ↦ rw (so c.is_valid.ensures w.if-is_valid.false) (rw w.first-is at c.answer.ensures)
    ]
