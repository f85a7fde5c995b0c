use Rattle.pid.specs.Told.{fixed_told, moving_told}
use Rattle.pid.proofs.Held.{fixed_good, moving_good}
use mathlib.Core.Path.{◌≡◌, refl, ◌∙◌}
use lib.IntN.{ℤ, ◌-ℤ◌, ◌*ℤ◌}
use mir.Syntax.{w64}
use mir.Val.{to_z, of_z}
use Rattle.whole.specs.Numbers.{Within}
use Rattle.settings.specs.Table.{reach, fastest}
use Rattle.record.specs.Units.{fine_reach}
use Rattle.pid.specs.Units.{part}
use Rattle.whole.proofs.Bits.{back}
use Rattle.pid.proofs.Shapes.{sensed_is}
use native.Mathlib.Omega.{arith}
use Rattle.whole.proofs.Parts.{zs}
use Rattle.whole.proofs.Num.{Num, nums, num_in, num_via, fits, stays, gives, same3, same4}
use Rattle.pid.specs.Sample.{ramped, filtered, derivative, new_w, new_y, sensed_of}
use Rattle.pid.proofs.Arithmetic.{ramped_within, filtered_within, derivative_within}
use Rattle.pid.proofs.numbers.Fixed.sense.Goals as goal
use Rattle.pid.proofs.numbers.Fixed.sense.Goals.{After-filter-y, After-from-x, After-ramp-w}

abbrev wide : ℤ → ℤ
wide x = to_z w64 (of_z w64 x)

abbrev x_num : (c : After-from-x) → Num c.from-x.result
x_num c =
    let p = c.requires in
    num_via c.from-x.ensures (search nums depth 12)

abbrev w_is : (c : After-ramp-w) → c.ramp-w.result ≡ new_w (fixed_told c.args.self) (moving_told c.args.m)
w_is c =
    let f = (fixed_good c.args.self) in
    let m = (moving_good c.args.m) in
    c.ramp-w.ensures ∙ same3 ramped (search nums depth 12) (search nums depth 12) (search nums depth 12) tt

abbrev w_num : (c : After-ramp-w) → Num c.ramp-w.result
w_num c =
    let f = (fixed_good c.args.self) in
    num_via (w_is c) (num_in (ramped_within _ _ _ (moving_good c.args.m).w f.target (omega (arith, zs, f.moves))))

abbrev y_is : (c : After-filter-y) →
    c.filter-y.result ≡ new_y (fixed_told c.args.self) (moving_told c.args.m) c.args.pv
y_is c =
    let f = (fixed_good c.args.self) in
    let m = (moving_good c.args.m) in
    let p = c.requires in
    let x : Num c.from-x.result = num_via c.from-x.ensures (search nums depth 12) in
    c.filter-y.ensures ∙ same3 (filtered c.args.m.primed) (search nums depth 12) (search nums depth 12) (search nums depth 12) tt

abbrev y_num : (c : After-filter-y) → Num c.filter-y.result
y_num c =
    let f = (fixed_good c.args.self) in
    let p = c.requires in
    num_via (y_is c)
    (num_in (filtered_within c.args.m.primed _ _ _ (moving_good c.args.m).y (stays (search nums depth 12) tt) (omega (arith, zs, f.follows)) f.alpha))

pub derive-d-requires : goal.derive-d-requires
derive-d-requires c =
    let f = (fixed_good c.args.self) in
    let m = (moving_good c.args.m) in
    let y = y_num (goal.at.derive-d-requires c).After-filter-y in
    record {
      kd_ok = stays (search nums depth 12) tt;
      sign_ok = stays (search nums depth 12) tt;
      y_ok = stays (search nums depth 12) tt;
      after_ok = stays (search nums depth 12) tt;
    }

pub overflow_sub-e : goal.overflow_sub-e
overflow_sub-e c =
    let p = c.requires in
    let w = w_num (goal.at.overflow_sub-e c).After-ramp-w in
    let x = x_num (goal.at.overflow_sub-e c).After-from-x in
    fits (search nums depth 12) tt

pub overflow_mul-e : goal.overflow_mul-e
overflow_mul-e c =
    let f = (fixed_good c.args.self) in
    let m = (moving_good c.args.m) in
    let p = c.requires in
    let w = w_num (goal.at.overflow_mul-e c).After-ramp-w in
    let x = x_num (goal.at.overflow_mul-e c).After-from-x in
    fits (search nums depth 12) tt

pub overflow_mul-result : goal.overflow_mul-result
overflow_mul-result c =
    let f = (fixed_good c.args.self) in
    let m = (moving_good c.args.m) in
    let p = c.requires in
    let w = w_num (goal.at.overflow_mul-result c).After-ramp-w in
    let x = x_num (goal.at.overflow_mul-result c).After-from-x in
    fits (search nums depth 12) tt

pub invariant_of-result : goal.invariant_of-result
invariant_of-result c =
    let sign = (fixed_good c.args.self).sign in
    let kp = (fixed_good c.args.self).kp in
    let kd = (fixed_good c.args.self).kd in
    let m = moving_good c.args.m in
    let p = c.requires in
    let x = x_num (goal.at.invariant_of-result c).After-from-x in
    let w = w_num (goal.at.invariant_of-result c).After-ramp-w in
    let y = y_num (goal.at.invariant_of-result c).After-filter-y in
    let r = c.derive-d in
    let w' : Within reach (wide c.ramp-w.result) = stays (search nums depth 20) tt in
    let y' : Within fine_reach (wide c.filter-y.result) = stays (search nums depth 20) tt in
    let e' : Within fastest (wide (wide c.args.self.sign *ℤ wide (wide c.ramp-w.result -ℤ wide c.from-x.result))) = stays (search nums depth 20) tt in
    let p' : Within part (wide (wide c.args.self.kp *ℤ wide (wide c.args.self.sign *ℤ wide (wide c.ramp-w.result -ℤ wide c.from-x.result)))) = stays (search nums depth 20) tt in
    record {
      w_in = w'.within;
      y_in = y'.within;
      e_in = e'.within;
      p_in = p'.within;
      d_in =
          rw (back w64 r.result r.type_inv ∙ r.ensures
          ∙ same4 (derivative c.args.m.primed) (search nums depth 12) (search nums depth 12) (search nums depth 12) (search nums depth 12) tt)
          (derivative_within c.args.m.primed c.args.self.kd c.args.self.sign c.args.m.y (new_y (fixed_told c.args.self) (moving_told c.args.m) c.args.pv)
          (record { kd_ok = kd; sign_ok = sign; y_ok = m.y; after_ok = filtered_within c.args.m.primed _ _ _ m.y (stays (search nums depth 12) tt) (omega (arith, zs, (fixed_good c.args.self).follows)) (fixed_good c.args.self).alpha })).within;
    }

pub returns : goal.returns
unfolding sensed_of
returns c =
    let sign = (fixed_good c.args.self).sign in
    let kp = (fixed_good c.args.self).kp in
    let kd = (fixed_good c.args.self).kd in
    let m = moving_good c.args.m in
    let p = c.requires in
    let x = x_num (goal.at.returns c).After-from-x in
    let w = w_num (goal.at.returns c).After-ramp-w in
    let y = y_num (goal.at.returns c).After-filter-y in
    let r = c.derive-d in
    sensed_is
    (gives (search nums depth 20) tt refl)
    (gives (search nums depth 20) tt refl)
    (gives (search nums depth 20) tt refl)
    (gives (search nums depth 20) tt refl)
    (back w64 r.result r.type_inv ∙ r.ensures
    ∙ same4 (derivative c.args.m.primed) (search nums depth 12) (search nums depth 12) (search nums depth 12) (search nums depth 12) tt)
