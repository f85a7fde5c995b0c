-- Laws of a sample: which of the law's steps 4 to 6 it takes, and that its numbers stay within their bounds.
use mathlib.Core.Path.{◌≡◌, refl, ◌∙◌}
use mathlib.Core.Bool.{true, false}
use native.Mathlib.Omega.{arith}
use lib.IntN.{ℤ, pos, ◌*ℤ◌}
use lib.Signed.{lt_z}
use Rattle.whole.specs.Numbers.{Within}
use Rattle.whole.proofs.Truth.{chosen, cond_yes, cond_no}
use Rattle.whole.proofs.Parts.{zs}
use Rattle.whole.proofs.Num.{nums, stays}
use Rattle.record.specs.Units.{B}
use Rattle.pid.specs.Numbers.{Fixed}
use Rattle.pid.specs.Numbers.{Moving}
use Rattle.pid.specs.Numbers.{Sensed}
use Rattle.pid.specs.Sample.{new_y, sensed_of, transferred, room_of, v_of, limited_v, back_calculated, integrated, new_i, ordinary_of, acted_of}
use Rattle.settings.specs.Table.{reach}
use Rattle.pid.specs.Bounds.{FixedOk, MovingOk, SensedOk}
use Rattle.pid.proofs.Rounding.{rounded_within}
use Rattle.pid.proofs.Arithmetic.{ramped_within, filtered_within, derivative_within, limited_within, clamped_within}
use Rattle.pid.proofs.Shapes.{moving_is}

-- what a manual sample leaves
abbrev pub manual_of : Moving → Sensed → Moving
manual_of m z = record { w = z.w; u = m.u; integral = m.integral; y = z.y; primed = true; pending = m.pending }

-- what a transfer sample leaves
abbrev pub transfer_of : Moving → Sensed → Moving
transfer_of m z = record { w = z.w; u = m.u; integral = transferred m z; y = z.y; primed = true; pending = false }

module _ (f : Fixed) (m : Moving) (z : Sensed) where
  pub acted_manual : f.automatic ≡ false → acted_of f m z ≡ manual_of m z
  unfolding acted_of
  acted_manual a = moving_is refl (cond_no _ _ a) (cond_no _ _ a) refl (rw a)

  pub acted_transfer : f.automatic ≡ true → m.pending ≡ true → acted_of f m z ≡ transfer_of m z
  unfolding acted_of
  acted_transfer a p = moving_is refl (cond_yes _ _ a ∙ cond_yes _ _ p) (cond_yes _ _ a ∙ cond_yes _ _ p) refl (rw a)

  pub acted_ordinary : f.automatic ≡ true → m.pending ≡ false → acted_of f m z ≡ ordinary_of f m z
  unfolding acted_of ordinary_of
  acted_ordinary a p = moving_is refl (cond_yes _ _ a ∙ cond_no _ _ p) (cond_yes _ _ a ∙ cond_no _ _ p) refl (rw a)

-- ---- bounds

pub sensed_ok : (f : Fixed) (m : Moving) (pv : ℤ) → FixedOk f → MovingOk m → Within reach pv → SensedOk (sensed_of f m pv)
unfolding sensed_of
sensed_ok f m pv a b h =
    let sign = a.sign in
    let kp = a.kp in
    let w = ramped_within m.w f.target f.rate b.w a.target (omega (arith, zs, a.moves)) in
    let y =
    filtered_within m.primed m.y (pv *ℤ pos 65536) f.alpha b.y (stays (search nums depth 9) tt) (omega (arith, zs, a.follows)) a.alpha
    in
    record {
      w = w;
      y = y;
      e = stays (search nums depth 12) tt;
      p = stays (search nums depth 12) tt;
      d = derivative_within m.primed f.kd f.sign m.y (new_y f m pv) (record { kd_ok = a.kd; sign_ok = sign; y_ok = b.y; after_ok = y });
    }

module _ (f : Fixed) (m : Moving) (z : Sensed) (a : FixedOk f) (b : MovingOk m) (c : SensedOk z) where
  pub transferred_within : Within B (transferred m z)
  transferred_within =
      let u = b.u in
      let p = c.p in
      let d = c.d in
      stays (search nums depth 12) tt

  pub room_within : (limit : ℤ) → Within 65536000000 limit → Within B (room_of limit z)
  room_within limit h =
      let p = c.p in
      let d = c.d in
      stays (search nums depth 12) tt

  pub new_i_within : Within B (new_i f m z)
  unfolding integrated back_calculated
  new_i_within =
      chosen (Within B) (lt_z (pos 0) f.kt)
      (λ _. limited_within _ _ _ (record { within = omega arith }) (record { within = omega arith }))
      (λ _. clamped_within m.integral _ (room_of f.hi z) (room_of f.lo z) b.integral (room_within f.hi a.hi) (room_within f.lo a.lo))

  pub acted_ok : MovingOk (acted_of f m z)
  unfolding acted_of
  acted_ok =
      record {
        w = c.w;
        u =
            chosen (Within reach) f.automatic
            (λ _. chosen (Within reach) m.pending (λ _. b.u)
            (λ _. rounded_within (limited_v f m z) 1000000 (limited_within (v_of f m z) f.lo f.hi a.lo a.hi)))
            (λ _. b.u);
        integral =
            chosen (Within B) f.automatic (λ _. chosen (Within B) m.pending (λ _. transferred_within) (λ _. new_i_within)) (λ _. b.integral);
        y = c.y;
      }
