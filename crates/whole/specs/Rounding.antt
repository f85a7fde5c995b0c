-- 02, request 3: "Halves shall go away from zero". Rounding of a whole number over any divisor, said once: 01 rounds over F.
use Rattle.std.specs.Prelude.{ℕ, suc, ◌+◌, ◌/◌, ℤ, pos, negsuc, neg_ℤ, ◌+ℤ◌, ◌-ℤ◌, ◌*ℤ◌, ◌≤ℤ◌, ◌<ℤ◌}
use Rattle.whole.specs.Numbers.{Within}

-- the half of n, rounded down
abbrev pub half : ℕ → ℕ
half n = n / 2

-- a / n to the nearest, halves up
abbrev pub half_up : ℕ → ℕ → ℕ
half_up a n = (a + half n) / n

-- x / n to the nearest, halves away from zero
abbrev pub nearest : ℤ → ℕ → ℤ
nearest (pos a) n = pos (half_up a n)
nearest (negsuc a) n = neg_ℤ (pos (half_up (suc a) n))

-- what it means that r is x / n to the nearest, halves away from zero. No two numbers r keep it
pub record IsNearest (x : ℤ) (n : ℕ) (r : ℤ) : Type 0 where
  -- r × n lies no further than n / 2 from x, on either side
  pub near : Within n ((r *ℤ pos n -ℤ x) *ℤ pos 2)
  -- and nearer than n / 2 on the side of zero: below an x that is not negative, above an x that is
  pub up : pos 0 ≤ℤ x → (x *ℤ pos 2) <ℤ (r *ℤ pos n *ℤ pos 2 +ℤ pos n)
  pub down : x <ℤ pos 0 → (r *ℤ pos n *ℤ pos 2) <ℤ (x *ℤ pos 2 +ℤ pos n)
