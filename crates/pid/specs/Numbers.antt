-- The numbers of a sample: Fixed holds what stays (the sign s, lo × F, hi × F, target, rate, mode, the gains in force), Moving what a
-- sample moves (w, u, I, y, primed, pending), Sensed what its steps 1 to 3 find (w, y, e, P, D).
use Rattle.std.specs.Prelude.{Bool, ℤ}

pub record Fixed : Type 0 where
  pub sign : ℤ
  pub lo : ℤ
  pub hi : ℤ
  pub target : ℤ
  pub rate : ℤ
  pub automatic : Bool
  pub kp : ℤ
  pub ki : ℤ
  pub kd : ℤ
  pub alpha : ℤ
  pub kt : ℤ

pub record Moving : Type 0 where
  pub w : ℤ
  pub u : ℤ
  pub integral : ℤ
  pub y : ℤ
  pub primed : Bool
  pub pending : Bool

pub record Sensed : Type 0 where
  pub w : ℤ
  pub y : ℤ
  pub e : ℤ
  pub p : ℤ
  pub d : ℤ
