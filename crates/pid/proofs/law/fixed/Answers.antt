use mathlib.Core.Path.{◌≡◌, refl, ap, ◌∙◌}
use lib.IntN.{pos, ◌*ℤ◌}
use mir.Val.{to_z, of_z}
use Rattle.pid.specs.Law.{sign_of}
use Rattle.pid.proofs.Sound.{fixed_ok}
use borrow.Author.Tests.{ltb-true}
use mir.Syntax.{w64}
use mir.Facts.{to_z-of_z}
use Rattle.whole.proofs.Num.{Num, nums, num_i32, num_via, gives}
use Rattle.whole.proofs.Bits.{back, widened}
use Rattle.settings.specs.Table.{sets}
use Rattle.settings.proofs.Fit.{gains_fit}
use Rattle.record.proofs.Fit.{loop_fit}
use Rattle.record.proofs.Rules.{holds_of}
use Rattle.pid.proofs.Shapes.{fixed_is}
use Rattle.pid.proofs.law.fixed.Goals as goal
use Rattle.pid.proofs.law.fixed.Goals.{After-from, After-from-2}

abbrev lo_num : (c : After-from) → Num c.from.result
lo_num c =
    num_via c.from.ensures (num_i32 (loop_fit c.args.l c.well_formed.0).settings.lo)

abbrev hi_num : (c : After-from-2) → Num c.from-2.result
hi_num c =
    num_via c.from-2.ensures (num_i32 (loop_fit c.args.l c.well_formed.0).settings.hi)

pub gains-g-requires : goal.gains-g-requires
gains-g-requires c = ltb-true c.args.l.set sets (holds_of c.args.l c.requires).set

pub invariant_of-result : goal.invariant_of-result
invariant_of-result c =
    let a = c.args.l in
    let f = loop_fit a c.well_formed.0 in
    let g = gains_fit c.gains-g.result c.gains-g.type_inv in
    let k = fixed_ok a (holds_of a c.requires) in
    let e = c.gains-g.ensures in
    let sign = c.sign in
    let l = lo_num (goal.at.invariant_of-result c).After-from in
    let h = hi_num (goal.at.invariant_of-result c).After-from-2 in
    let lo : to_z w64 (of_z w64 (to_z w64 (of_z w64 c.from.result) *ℤ pos 65536)) ≡ a.settings.lo *ℤ pos 65536 = gives (search nums depth 12) tt refl in
    let hi : to_z w64 (of_z w64 (to_z w64 (of_z w64 c.from-2.result) *ℤ pos 65536)) ≡ a.settings.hi *ℤ pos 65536 = gives (search nums depth 12) tt refl in
    record {
      sign_in = rw (back w64 sign.result sign.type_inv ∙ sign.ensures ∙ ap sign_of (to_z-of_z f.settings.action)) k.sign.within;
      lo_in = rw lo k.lo.within;
      hi_in = rw hi k.hi.within;
      apart = rw (lo, hi) k.apart;
      target_in = rw (widened c.from-3.result f.target c.from-3.type_inv c.from-3.ensures) k.target.within;
      rate_in = rw (widened c.from-4.result f.rate c.from-4.type_inv c.from-4.ensures) k.rate.within;
      moves = rw (widened c.from-4.result f.rate c.from-4.type_inv c.from-4.ensures) k.moves;
      kp_in = rw (widened c.from-5.result g.kp c.from-5.type_inv c.from-5.ensures, e) k.kp.within;
      ki_in = rw (widened c.from-6.result g.ki c.from-6.type_inv c.from-6.ensures, e) k.ki.within;
      kd_in = rw (widened c.from-7.result g.kd c.from-7.type_inv c.from-7.ensures, e) k.kd.within;
      alpha_in = rw (widened c.from-8.result g.alpha c.from-8.type_inv c.from-8.ensures, e) k.alpha.within;
      follows = rw (widened c.from-8.result g.alpha c.from-8.type_inv c.from-8.ensures, e) k.follows;
      kt_in = rw (widened c.from-9.result g.kt c.from-9.type_inv c.from-9.ensures, e) k.kt.within;
    }

pub returns : goal.returns
returns c =
    let f = loop_fit c.args.l c.well_formed.0 in
    let g = gains_fit c.gains-g.result c.gains-g.type_inv in
    let sign = c.sign in
    let l = lo_num (goal.at.returns c).After-from in
    let h = hi_num (goal.at.returns c).After-from-2 in
    let e = c.gains-g.ensures in
    rw (← e)
    (fixed_is
    (back w64 sign.result sign.type_inv ∙ sign.ensures ∙ rw (to_z-of_z f.settings.action))
    (gives (search nums depth 12) tt refl)
    (gives (search nums depth 12) tt refl)
    (widened c.from-3.result f.target c.from-3.type_inv c.from-3.ensures)
    (widened c.from-4.result f.rate c.from-4.type_inv c.from-4.ensures)
    (widened c.from-5.result g.kp c.from-5.type_inv c.from-5.ensures)
    (widened c.from-6.result g.ki c.from-6.type_inv c.from-6.ensures)
    (widened c.from-7.result g.kd c.from-7.type_inv c.from-7.ensures)
    (widened c.from-8.result g.alpha c.from-8.type_inv c.from-8.ensures)
    (widened c.from-9.result g.kt c.from-9.type_inv c.from-9.ensures))
