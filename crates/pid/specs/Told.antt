-- The code's numbers of a sample without the bounds that each of them keeps.
use Rattle.pid.specs.Numbers.{Fixed, Moving, Sensed}
use Rattle.pid.specs.declared.numbers.Fixed.{Fixed as Stays}
use Rattle.pid.specs.declared.numbers.Moving.{Moving as Moves}
use Rattle.pid.specs.declared.numbers.Sensed.{Sensed as Found}

abbrev pub fixed_told : Stays → Fixed
fixed_told f = record {
  sign = f.sign;
  lo = f.lo;
  hi = f.hi;
  target = f.target;
  rate = f.rate;
  automatic = f.automatic;
  kp = f.kp;
  ki = f.ki;
  kd = f.kd;
  alpha = f.alpha;
  kt = f.kt;
}

abbrev pub moving_told : Moves → Moving
moving_told m = record { w = m.w; u = m.u; integral = m.integral; y = m.y; primed = m.primed; pending = m.pending }

abbrev pub sensed_told : Found → Sensed
sensed_told z = record { w = z.w; y = z.y; e = z.e; p = z.p; d = z.d }
