-- Mirrored samples: each step of the law commutes with the mirrors.
use mathlib.Core.Path.{◌≡◌, refl, sym, ap, ◌∙◌}
use mathlib.Core.Bool.{Bool, true, false}
use native.Mathlib.Omega.{arith}
use lib.IntN.{ℤ, pos, neg_ℤ, ◌+ℤ◌, ◌-ℤ◌, ◌*ℤ◌, neg_ℤ-+ℤ, neg_ℤ-neg_ℤ}
use lib.Signed.{lt_z, ◌≤ℤ◌}
use Rattle.whole.proofs.Truth.{by_test, push}
use Rattle.whole.proofs.Parts.{zs}
use Rattle.whole.proofs.Lin.{Lin, at, lins}
use Rattle.whole.proofs.Negated.{mul_neg, neg_mul, negs, neg_sub, lt_neg}
use Rattle.record.specs.Units.{F, B}
use Rattle.pid.specs.Numbers.{Fixed}
use Rattle.pid.specs.Numbers.{Moving}
use Rattle.pid.specs.Numbers.{Sensed}
use Rattle.pid.specs.Units.{rounded}
use Rattle.pid.specs.Sample.{lesser, greater, limited, ramped, filtered, derivative, error_of, new_w, new_y, sensed_of, transferred, share_of, v_of, limited_v, room_of, clamped, back_calculated, integrated, new_i, acted_of, moved_of}
use Rattle.pid.proofs.Rounding.{rounded_neg}
use Rattle.pid.proofs.Shapes.{moving_is, sensed_is}
use Rattle.mirror.specs.Mirror.{Mirror, of_action, of_temperatures, flip_temperature}

-- ---- the mirror images of what a sample reads, moves and finds

-- the sign s of the action
abbrev pub flip_sign : Mirror → ℤ → ℤ
flip_sign of_action s = neg_ℤ s
flip_sign of_temperatures s = s

abbrev pub flip_fixed : Mirror → Fixed → Fixed
flip_fixed k f = record f { sign = flip_sign k f.sign; lo = neg_ℤ f.hi; hi = neg_ℤ f.lo; target = flip_temperature k f.target }

abbrev pub flip_moving : Mirror → Moving → Moving
flip_moving k m = record m { w = flip_temperature k m.w; u = neg_ℤ m.u; integral = neg_ℤ m.integral; y = flip_temperature k m.y }

-- the error, P and D change sign in both mirrors
abbrev flip_sensed : Mirror → Sensed → Sensed
flip_sensed k z = record {
  w = flip_temperature k z.w;
  y = flip_temperature k z.y;
  e = neg_ℤ z.e;
  p = neg_ℤ z.p;
  d = neg_ℤ z.d;
}

-- ---- the functions of numbers

-- of two numbers with the other sign, the smaller is the larger with the other sign
lesser_neg : (a b : ℤ) → lesser (neg_ℤ a) (neg_ℤ b) ≡ neg_ℤ (greater a b)
unfolding lesser greater
lesser_neg a b =
    let A = at a in
    let B = at b in
    rw (lt_neg a b)
    (by_test (lt_z b a)
    (λ e. by_test (lt_z a b) (λ d. absurd (omega (arith, zs))) (λ d. rw (e, d)))
    (λ e. by_test (lt_z a b) (λ d. rw (e, d)) (λ d. let q : b ≡ a = omega (arith, zs) in rw (e, d, q))))

greater_neg : (a b : ℤ) → greater (neg_ℤ a) (neg_ℤ b) ≡ neg_ℤ (lesser a b)
greater_neg a b =
    let q = rw (neg_ℤ-neg_ℤ a, neg_ℤ-neg_ℤ b) at (lesser_neg (neg_ℤ a) (neg_ℤ b)) in
    sym (ap neg_ℤ q ∙ neg_ℤ-neg_ℤ (greater (neg_ℤ a) (neg_ℤ b)))

-- the limits have to be in order: of an x below lo and above hi at once, the first test counts
limited_neg : (x lo hi : ℤ) → lo ≤ℤ hi → limited (neg_ℤ x) (neg_ℤ hi) (neg_ℤ lo) ≡ neg_ℤ (limited x lo hi)
unfolding limited
limited_neg x lo hi h =
    let X = at x in
    let L = at lo in
    let H = at hi in
    rw (lt_neg x hi, lt_neg lo x)
    (by_test (lt_z x lo)
    (λ e. by_test (lt_z hi x) (λ d. absurd (omega (arith, zs))) (λ d. rw (e, d)))
    (λ e. by_test (lt_z hi x) (λ d. rw (e, d)) (λ d. rw (e, d))))

-- at the target the distance is nothing, and a rate that is not negative moves w by nothing
no_way : (w t r : ℤ) → w ≡ t → pos 0 ≤ℤ r → lesser r (t -ℤ w) ≡ pos 0
unfolding lesser
no_way w t r e h =
    let W = at w in
    let T = at t in
    let R = at r in
    let D : Lin (t -ℤ w) = search lins in
    by_test (lt_z r (t -ℤ w)) (λ d. absurd (omega (arith, zs))) (λ d. rw d (omega (arith, zs)))

ramped_neg : (w t r : ℤ) → pos 0 ≤ℤ r → ramped (neg_ℤ w) (neg_ℤ t) r ≡ neg_ℤ (ramped w t r)
unfolding ramped
ramped_neg w t r h =
    let W = at w in
    let T = at t in
    rw (lt_neg w t, neg_sub t w, neg_sub w t)
    (by_test (lt_z w t)
    (λ e. by_test (lt_z t w) (λ d. absurd (omega (arith, zs))) (λ d. rw (e, d) (sym (neg_ℤ-+ℤ w (lesser r (t -ℤ w))))))
    (λ e. by_test (lt_z t w)
    (λ d. rw (e, d) (simp negs))
    (λ d. let q : w ≡ t = omega (arith, zs) in rw (e, d, no_way w t r q h, no_way t w r (sym q) h) (simp negs))))

-- the two rooms change places
clamped_neg : (i g top bottom : ℤ) → clamped (neg_ℤ i) (neg_ℤ g) (neg_ℤ bottom) (neg_ℤ top) ≡ neg_ℤ (clamped i g top bottom)
unfolding clamped
clamped_neg i g top bottom =
    let G = at g in
    rw (lt_neg (pos 0) g, lt_neg g (pos 0), ← neg_ℤ-+ℤ i g, lesser_neg (i +ℤ g) bottom, greater_neg (i +ℤ g) top)
    (rw (greater_neg i (greater (i +ℤ g) bottom), lesser_neg i (lesser (i +ℤ g) top))
    (by_test (lt_z (pos 0) g)
    (λ e. by_test (lt_z g (pos 0)) (λ d. absurd (omega (arith, zs))) (λ d. rw (e, d)))
    (λ e. by_test (lt_z g (pos 0)) (λ d. rw (e, d)) (λ d. rw (e, d)))))

back_neg : (i g kt excess : ℤ) → back_calculated (neg_ℤ i) (neg_ℤ g) kt (neg_ℤ excess) ≡ neg_ℤ (back_calculated i g kt excess)
unfolding back_calculated
back_neg i g kt excess =
    rw (mul_neg kt excess, rounded_neg (kt *ℤ excess), ← neg_ℤ-+ℤ i g, ← neg_ℤ-+ℤ (i +ℤ g) (rounded (kt *ℤ excess)))
    (limited_neg (i +ℤ g +ℤ rounded (kt *ℤ excess)) (neg_ℤ (pos B)) (pos B) (omega (arith, zs)))

filtered_neg : (primed : Bool) (y x alpha : ℤ) → filtered primed (neg_ℤ y) (neg_ℤ x) alpha ≡ neg_ℤ (filtered primed y x alpha)
unfolding filtered
filtered_neg true y x alpha =
    rw (← neg_ℤ-+ℤ x (neg_ℤ y), neg_mul (x -ℤ y) alpha, rounded_neg ((x -ℤ y) *ℤ alpha)) (sym (neg_ℤ-+ℤ y (rounded ((x -ℤ y) *ℤ alpha))))
filtered_neg false y x alpha = refl

-- D changes sign with s, and with y before and after
derivative_sign : (primed : Bool) (kd s y y' : ℤ) → derivative primed kd (neg_ℤ s) y y' ≡ neg_ℤ (derivative primed kd s y y')
unfolding derivative
derivative_sign true kd s y y' = rw (mul_neg kd s, neg_mul (kd *ℤ s) (y -ℤ y')) (rounded_neg (kd *ℤ s *ℤ (y -ℤ y')))
derivative_sign false kd s y y' = refl

derivative_neg : (primed : Bool) (kd s y y' : ℤ) → derivative primed kd s (neg_ℤ y) (neg_ℤ y') ≡ neg_ℤ (derivative primed kd s y y')
unfolding derivative
derivative_neg true kd s y y' = rw (← neg_ℤ-+ℤ y (neg_ℤ y'), mul_neg (kd *ℤ s) (y -ℤ y')) (rounded_neg (kd *ℤ s *ℤ (y -ℤ y')))
derivative_neg false kd s y y' = refl

-- ---- the law's steps 1 to 3

module _ (f : Fixed) (m : Moving) (pv : ℤ) (ok : pos 0 ≤ℤ f.rate) where
  sensed_mirror : (k : Mirror) → sensed_of (flip_fixed k f) (flip_moving k m) (flip_temperature k pv) ≡ flip_sensed k (sensed_of f m pv)
  unfolding sensed_of
  sensed_mirror of_action =
      sensed_is refl refl (neg_mul f.sign (new_w f m -ℤ pv))
      (ap (λ (e : ℤ). f.kp *ℤ e) (neg_mul f.sign (new_w f m -ℤ pv)) ∙ mul_neg f.kp (error_of f.sign (new_w f m) pv))
      (derivative_sign m.primed f.kd f.sign m.y (new_y f m pv))
  sensed_mirror of_temperatures =
      let w = ramped_neg m.w f.target f.rate ok in
      let y : new_y (flip_fixed of_temperatures f) (flip_moving of_temperatures m) (neg_ℤ pv) ≡ neg_ℤ (new_y f m pv) =
      rw (neg_mul pv (pos F)) (filtered_neg m.primed m.y (pv *ℤ pos F) f.alpha) in
      let e : f.sign *ℤ (new_w (flip_fixed of_temperatures f) (flip_moving of_temperatures m) -ℤ neg_ℤ pv) ≡ neg_ℤ (f.sign *ℤ (new_w f m -ℤ pv)) =
      rw w (rw (← neg_ℤ-+ℤ (new_w f m) (neg_ℤ pv)) (mul_neg f.sign (new_w f m -ℤ pv))) in
      sensed_is w y e
      (ap (λ (z : ℤ). f.kp *ℤ z) e ∙ mul_neg f.kp (error_of f.sign (new_w f m) pv))
      (rw y (derivative_neg m.primed f.kd f.sign m.y (new_y f m pv)))

-- ---- the law's steps 4 to 6: in both mirrors e, P and D come with the other sign, so they are shown once

module _ (f : Fixed) (m : Moving) (z : Sensed) (ok : f.lo ≤ℤ f.hi) (k : Mirror) where
  v_mirror : v_of (flip_fixed k f) (flip_moving k m) (flip_sensed k z) ≡ neg_ℤ (v_of f m z)
  v_mirror = simp negs

  limited_mirror : limited_v (flip_fixed k f) (flip_moving k m) (flip_sensed k z) ≡ neg_ℤ (limited_v f m z)
  limited_mirror = rw v_mirror (limited_neg (v_of f m z) f.lo f.hi ok)

  room_mirror : (limit : ℤ) → room_of (neg_ℤ limit) (flip_sensed k z) ≡ neg_ℤ (room_of limit z)
  room_mirror limit = simp negs

  new_i_mirror : new_i (flip_fixed k f) (flip_moving k m) (flip_sensed k z) ≡ neg_ℤ (new_i f m z)
  unfolding integrated
  new_i_mirror =
      rw (limited_mirror, v_mirror, ← neg_ℤ-+ℤ (limited_v f m z) (neg_ℤ (v_of f m z)), mul_neg f.ki z.e, room_mirror f.lo, room_mirror f.hi)
      (rw (back_neg m.integral (share_of f z) f.kt (limited_v f m z -ℤ v_of f m z), clamped_neg m.integral (share_of f z) (room_of f.hi z) (room_of f.lo z))
      (push neg_ℤ (lt_z (pos 0) f.kt) _ _))

  transferred_mirror : transferred (flip_moving k m) (flip_sensed k z) ≡ neg_ℤ (transferred m z)
  transferred_mirror = simp negs

  acted_mirror : acted_of (flip_fixed k f) (flip_moving k m) (flip_sensed k z) ≡ flip_moving k (acted_of f m z)
  unfolding acted_of
  acted_mirror =
      moving_is refl
      (rw (limited_mirror, rounded_neg (limited_v f m z), push neg_ℤ m.pending, push neg_ℤ f.automatic))
      (rw (new_i_mirror, transferred_mirror, push neg_ℤ m.pending, push neg_ℤ f.automatic))
      refl refl

-- one sample
pub moved_mirror : (k : Mirror) (f : Fixed) (m : Moving) (pv : ℤ) → pos 0 ≤ℤ f.rate → f.lo ≤ℤ f.hi →
    moved_of (flip_fixed k f) (flip_moving k m) (flip_temperature k pv) ≡ flip_moving k (moved_of f m pv)
moved_mirror k f m pv r l = rw (sensed_mirror f m pv r k) (acted_mirror f m (sensed_of f m pv) l k)
