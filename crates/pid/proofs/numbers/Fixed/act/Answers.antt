use lib.IntN.{ℤ, pos, ◌-ℤ◌, ◌*ℤ◌}
use mir.Syntax.{w64}
use mir.Val.{to_z, of_z}
use Rattle.whole.specs.Numbers.{Within}
use Rattle.settings.specs.Table.{reach}
use Rattle.record.specs.Units.{B, fine_reach}
use Rattle.pid.specs.Told.{fixed_told, moving_told, sensed_told}
use Rattle.pid.proofs.Held.{fixed_good, moving_good, sensed_good}
use mathlib.Core.Path.{refl, sym, ◌∙◌}
use borrow.Author.Tests.{not-true, not-false}
use Rattle.whole.proofs.Num.{nums, stays, gives}
use Rattle.pid.proofs.Samples.{acted_manual, acted_transfer, acted_ordinary}
use Rattle.pid.proofs.Shapes.{moving_is}
use Rattle.pid.proofs.numbers.Fixed.act.Goals as goal

pub returns-then-not-self : goal.returns-then-not-self
returns-then-not-self c =
    let f = (fixed_good c.args.self) in
    let m = (moving_good c.args.m) in
    let z = (sensed_good c.args.z) in
    moving_is (gives (search nums depth 12) tt refl) (gives (search nums depth 12) tt refl) (gives (search nums depth 12) tt refl) (gives (search nums depth 12) tt refl) refl
    ∙ sym (acted_manual (fixed_told c.args.self) (moving_told c.args.m) (sensed_told c.args.z) (not-true _ c.if-not-self.true))

abbrev wide : ℤ → ℤ
wide x = to_z w64 (of_z w64 x)

pub invariant_of-result-then-m : goal.invariant_of-result-then-m
invariant_of-result-then-m c =
    let m = moving_good c.args.m in
    let z = sensed_good c.args.z in
    let w : Within reach (wide c.args.z.w) = stays (search nums depth 12) tt in
    let u : Within reach (wide c.args.m.u) = stays (search nums depth 12) tt in
    let i : Within B (wide (wide (wide (wide c.args.m.u *ℤ pos 65536) -ℤ wide c.args.z.p) -ℤ wide c.args.z.d)) = stays (search nums depth 20) tt in
    let y : Within fine_reach (wide c.args.z.y) = stays (search nums depth 12) tt in
    record { w_in = w.within; u_in = u.within; integral_in = i.within; y_in = y.within }

pub returns-then-m : goal.returns-then-m
returns-then-m c =
    let f = (fixed_good c.args.self) in
    let m = (moving_good c.args.m) in
    let z = (sensed_good c.args.z) in
    moving_is (gives (search nums depth 12) tt refl) (gives (search nums depth 12) tt refl) (gives (search nums depth 20) tt refl) (gives (search nums depth 12) tt refl) refl
    ∙ sym (acted_transfer (fixed_told c.args.self) (moving_told c.args.m) (sensed_told c.args.z) (not-false _ c.if-not-self.false) c.if-m.true)

pub returns : goal.returns
returns c =
    c.ordinary.ensures
    ∙ sym (acted_ordinary (fixed_told c.args.self) (moving_told c.args.m) (sensed_told c.args.z) (not-false _ c.if-not-self.false) c.if-m.false)
