-- Signed whole numbers: what contracts say of them.
use Rattle.std.specs.Prelude.{Bool, false, ◌&&◌, ℕ, suc, ◌+◌, ◌≤◌, eqb, ℤ, pos, negsuc}
use Rattle.std.specs.Int.Signed.{le_z}

-- a number is `plus z - minus z`, and one of the two is 0
abbrev pub plus : ℤ → ℕ
plus (pos n) = n
plus (negsuc n) = 0

abbrev pub minus : ℤ → ℕ
minus (pos n) = 0
minus (negsuc n) = suc n

-- how large z is, its sign left aside
abbrev pub size : ℤ → ℕ
size z = plus z + minus z

-- z lies within ±n. A record, so that z and n are inferred from it; omega reads its field
pub record Within (n : ℕ) (z : ℤ) : Type 0 where
  pub within : size z ≤ n

-- whether two numbers are the same
abbrev pub eq_z : ℤ → ℤ → Bool
eq_z (pos a) (pos b) = eqb a b
eq_z (pos a) (negsuc b) = false
eq_z (negsuc a) (pos b) = false
eq_z (negsuc a) (negsuc b) = eqb a b

-- whether x lies in least..most, both ends included
abbrev pub inside : ℤ → ℤ → ℤ → Bool
inside least most x = le_z least x && le_z x most
