-- 01, "The law": a sample, step by step. Fixed holds what stays (the sign s, lo × F, hi × F, target, rate, mode, the gains
-- in force), Moving what a sample moves (w, u, I, y, primed, pending), Sensed what its steps 1 to 3 find (w, y, e, P, D).
use Rattle.std.specs.Prelude.{Bool, true, false, not, cond, ◌&&◌, ℤ, pos, neg_ℤ, ◌+ℤ◌, ◌-ℤ◌, ◌*ℤ◌}
use Rattle.std.specs.Int.Signed.{lt_z}
use Rattle.record.specs.Units.{F, B}
use Rattle.pid.specs.Numbers.{Fixed}
use Rattle.pid.specs.Numbers.{Moving}
use Rattle.pid.specs.Numbers.{Sensed}
use Rattle.pid.specs.Units.{rounded}

-- "the smaller of"
unfoldable pub lesser : ℤ → ℤ → ℤ
lesser a b = cond (lt_z a b) a b

-- "the larger of"
unfoldable pub greater : ℤ → ℤ → ℤ
greater a b = cond (lt_z a b) b a

-- x limited to lo..hi
unfoldable pub limited : ℤ → ℤ → ℤ → ℤ
limited x lo hi = cond (lt_z x lo) lo (cond (lt_z hi x) hi x)

-- ---- 1. "w moves toward the target by the smaller of rate and the distance."

unfoldable pub ramped : ℤ → ℤ → ℤ → ℤ
ramped w target rate = cond (lt_z w target) (w +ℤ lesser rate (target -ℤ w)) (w -ℤ lesser rate (w -ℤ target))

-- ---- 2. "Not primed: y becomes pv × F, primed, D = 0. Primed: the new y is y' = y + round((pv × F - y) × alpha / F),
-- and D = round(kd × s × (y - y') / F)." Here x is pv × F

unfoldable pub filtered : Bool → ℤ → ℤ → ℤ → ℤ
filtered primed y x alpha = cond primed (y +ℤ rounded ((x -ℤ y) *ℤ alpha)) x

unfoldable pub derivative : Bool → ℤ → ℤ → ℤ → ℤ → ℤ
derivative primed kd sign y after = cond primed (rounded (kd *ℤ sign *ℤ (y -ℤ after))) (pos 0)

-- ---- 3. "e = s × (w - pv), P = kp × e."

abbrev pub error_of : ℤ → ℤ → ℤ → ℤ
error_of sign w pv = sign *ℤ (w -ℤ pv)

abbrev pub new_w : Fixed → Moving → ℤ
new_w f m = ramped m.w f.target f.rate

abbrev pub new_y : Fixed → Moving → ℤ → ℤ
new_y f m pv = filtered m.primed m.y (pv *ℤ pos F) f.alpha

unfoldable pub sensed_of : Fixed → Moving → ℤ → Sensed
sensed_of f m pv = record {
  w = new_w f m;
  y = new_y f m pv;
  e = error_of f.sign (new_w f m) pv;
  p = f.kp *ℤ error_of f.sign (new_w f m) pv;
  d = derivative m.primed f.kd f.sign m.y (new_y f m pv);
}

-- ---- 5. "Automatic and pending (transfer sample): I = u × F - P - D, u stays, pending ends."

abbrev pub transferred : Moving → Sensed → ℤ
transferred m z = m.u *ℤ pos F -ℤ z.p -ℤ z.d

-- ---- 6. "Else (ordinary sample): g = ki × e, v = P + I + g + D, U = v limited to lo × F..hi × F, new u = round(U / F)."

abbrev pub share_of : Fixed → Sensed → ℤ
share_of f z = f.ki *ℤ z.e

abbrev pub v_of : Fixed → Moving → Sensed → ℤ
v_of f m z = z.p +ℤ m.integral +ℤ share_of f z +ℤ z.d

abbrev pub limited_v : Fixed → Moving → Sensed → ℤ
limited_v f m z = limited (v_of f m z) f.lo f.hi

-- lo or hi × F - P - D: what a limit leaves for I
abbrev pub room_of : ℤ → Sensed → ℤ
room_of limit z = limit -ℤ z.p -ℤ z.d

-- "With kt = 0: for g > 0 the new I is the larger of I and the smaller of I + g and hi × F - P - D; for g < 0 the smaller
-- of I and the larger of I + g and lo × F - P - D; for g = 0, I stays." top and bottom are the two rooms
unfoldable pub clamped : ℤ → ℤ → ℤ → ℤ → ℤ
clamped i g top bottom =
    cond (lt_z (pos 0) g) (greater i (lesser (i +ℤ g) top)) (cond (lt_z g (pos 0)) (lesser i (greater (i +ℤ g) bottom)) i)

-- "With kt > 0: I + g + round(kt × (U - v) / F), then limited to ±B." excess is U - v
unfoldable pub back_calculated : ℤ → ℤ → ℤ → ℤ → ℤ
back_calculated i g kt excess = limited (i +ℤ g +ℤ rounded (kt *ℤ excess)) (neg_ℤ (pos B)) (pos B)

unfoldable pub integrated : Fixed → Moving → Sensed → ℤ → ℤ
integrated f m z excess =
    cond (lt_z (pos 0) f.kt)
    (back_calculated m.integral (share_of f z) f.kt excess)
    (clamped m.integral (share_of f z) (room_of f.hi z) (room_of f.lo z))

abbrev pub new_i : Fixed → Moving → Sensed → ℤ
new_i f m z = integrated f m z (limited_v f m z -ℤ v_of f m z)

unfoldable pub ordinary_of : Fixed → Moving → Sensed → Moving
ordinary_of f m z = record {
  w = z.w;
  u = rounded (limited_v f m z);
  integral = new_i f m z;
  y = z.y;
  primed = true;
  pending = false;
}

-- ---- 4 to 6: "Manual: u and I stay."; a transfer sample; an ordinary one

unfoldable pub acted_of : Fixed → Moving → Sensed → Moving
acted_of f m z = record {
  w = z.w;
  u = cond f.automatic (cond m.pending m.u (rounded (limited_v f m z))) m.u;
  integral = cond f.automatic (cond m.pending (transferred m z) (new_i f m z)) m.integral;
  y = z.y;
  primed = true;
  pending = not f.automatic && m.pending;
}

-- one sample
abbrev pub moved_of : Fixed → Moving → ℤ → Moving
moved_of f m pv = acted_of f m (sensed_of f m pv)
