-- The bounds that the code's numbers keep, by the names that the laws of a sample have for them.
use Rattle.pid.specs.declared.numbers.Fixed.{Fixed}
use Rattle.pid.specs.declared.numbers.Moving.{Moving}
use Rattle.pid.specs.declared.numbers.Sensed.{Sensed}
use Rattle.pid.specs.Told.{fixed_told, moving_told, sensed_told}
use Rattle.pid.specs.Bounds.{FixedOk, MovingOk, SensedOk}

pub fixed_good : (f : Fixed) → FixedOk (fixed_told f)
fixed_good f = record {
  sign = record { within = f.sign_in };
  lo = record { within = f.lo_in };
  hi = record { within = f.hi_in };
  apart = f.apart;
  target = record { within = f.target_in };
  rate = record { within = f.rate_in };
  moves = f.moves;
  kp = record { within = f.kp_in };
  ki = record { within = f.ki_in };
  kd = record { within = f.kd_in };
  alpha = record { within = f.alpha_in };
  follows = f.follows;
  kt = record { within = f.kt_in };
}

pub moving_good : (m : Moving) → MovingOk (moving_told m)
moving_good m = record {
  w = record { within = m.w_in };
  u = record { within = m.u_in };
  integral = record { within = m.integral_in };
  y = record { within = m.y_in };
}

pub sensed_good : (z : Sensed) → SensedOk (sensed_told z)
sensed_good z = record {
  w = record { within = z.w_in };
  y = record { within = z.y_in };
  e = record { within = z.e_in };
  p = record { within = z.p_in };
  d = record { within = z.d_in };
}
