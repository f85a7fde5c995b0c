use mir.Facts.{to_z-of_z}
use Rattle.whole.proofs.Truth.{so}
use Rattle.memory.proofs.Fit.{entry_fit}
use Rattle.delivery.specs.Numbered.{settled_of}
use Rattle.delivery.proofs.numbered.Numbered.again.Goals as goal
use Rattle.delivery.proofs.numbered.Numbered.again.Goals.{then-is_valid, else-is_valid}

pub returns : goal.returns
unfolding settled_of
returns c =
    let v = c.is_valid in
    let u = to_z-of_z (entry_fit c.args.e c.well_formed.1.1.0) in
    elim c.if-is_valid.branch [
      | then-is_valid w ↦ rw (so v.ensures w.if-is_valid.true, w.outcome-is, u, u)
      | else-is_valid w ↦ rw (so v.ensures w.if-is_valid.false, w.outcome-is)
    ]
