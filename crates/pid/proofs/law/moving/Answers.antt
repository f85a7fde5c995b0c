use mir.Facts.{to_z-of_z}
use Rattle.whole.proofs.Bits.{widened}
use Rattle.record.proofs.Fit.{loop_fit}
use Rattle.record.proofs.Rules.{holds_of}
use Rattle.pid.proofs.Sound.{moving_ok}
use Rattle.pid.proofs.law.moving.Goals as goal

pub invariant_of-result : goal.invariant_of-result
invariant_of-result c =
    let f = loop_fit c.args.l c.well_formed.0 in
    let k = moving_ok c.args.l (holds_of c.args.l c.requires) in
    record {
      w_in = rw (widened c.from.result f.w c.from.type_inv c.from.ensures) k.w.within;
      u_in = rw (widened c.from-2.result f.u c.from-2.type_inv c.from-2.ensures) k.u.within;
      integral_in = rw (to_z-of_z f.integral) k.integral.within;
      y_in = rw (to_z-of_z f.y) k.y.within;
    }
