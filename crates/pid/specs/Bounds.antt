-- How large the numbers of a sample are: what the functions of its arithmetic may ask of their callers.
use Rattle.std.specs.Prelude.{ℤ, pos, ◌≤ℤ◌, ◌<ℤ◌}
use Rattle.whole.specs.Numbers.{Within}
use Rattle.record.specs.Units.{B, fine_reach}
use Rattle.pid.specs.Numbers.{Fixed}
use Rattle.pid.specs.Numbers.{Moving}
use Rattle.pid.specs.Numbers.{Sensed}
use Rattle.pid.specs.Units.{part, excess_most}
use Rattle.settings.specs.Table.{reach, fastest, gain, share}

pub record FixedOk (f : Fixed) : Type 0 where
  pub sign : Within 1 f.sign
  pub lo : Within fine_reach f.lo
  pub hi : Within fine_reach f.hi
  pub apart : f.lo <ℤ f.hi
  pub target : Within reach f.target
  pub rate : Within fastest f.rate
  pub moves : pos 1 ≤ℤ f.rate
  pub kp : Within gain f.kp
  pub ki : Within gain f.ki
  pub kd : Within gain f.kd
  pub alpha : Within share f.alpha
  pub follows : pos 1 ≤ℤ f.alpha
  pub kt : Within share f.kt

pub record MovingOk (m : Moving) : Type 0 where
  pub w : Within reach m.w
  pub u : Within reach m.u
  pub integral : Within B m.integral
  pub y : Within fine_reach m.y

-- "Largest P, D and g: 8,388,608,000,000 each"
pub record SensedOk (z : Sensed) : Type 0 where
  pub w : Within reach z.w
  pub y : Within fine_reach z.y
  pub e : Within fastest z.e
  pub p : Within part z.p
  pub d : Within part z.d

pub record RampOk (w target rate : ℤ) : Type 0 where
  pub w_ok : Within reach w
  pub target_ok : Within reach target
  pub rate_ok : Within fastest rate

pub record FilterOk (y x alpha : ℤ) : Type 0 where
  pub y_ok : Within fine_reach y
  pub x_ok : Within fine_reach x
  pub alpha_ok : Within share alpha

pub record SlopeOk (kd sign y after : ℤ) : Type 0 where
  pub kd_ok : Within gain kd
  pub sign_ok : Within 1 sign
  pub y_ok : Within fine_reach y
  pub after_ok : Within fine_reach after

-- top and bottom, hi and lo × F - P - D, lie within ±B: B is 1,000,000 F + 2 × 8,388,608,000,000
pub record ClampOk (i g top bottom : ℤ) : Type 0 where
  pub i_ok : Within B i
  pub g_ok : Within part g
  pub top_ok : Within B top
  pub bottom_ok : Within B bottom

pub record BackOk (i g kt excess : ℤ) : Type 0 where
  pub i_ok : Within B i
  pub g_ok : Within part g
  pub kt_ok : Within share kt
  pub excess_ok : Within excess_most excess
