-- How large sums, products and quotients can be.
use mathlib.Core.Path.{◌≡◌, refl}
use Prim.Native.Nat.{ℕ, zero, suc, ◌+◌, ◌*◌, ◌/◌, ◌^◌, ◌≤◌}
use native.Mathlib.Nat.{le_trans, lt_of_le_of_lt, mul-le-mul, div-zero, le-div_iff_mul-le, div-mul-le_self}
use native.Mathlib.Omega.{arith}
use lib.Dec.{T, ltb, ltb→lt}
use lib.IntN.{ℤ, pos, negsuc, neg_ℤ, nat_abs, ◌+ℤ◌, ◌*ℤ◌}
use lib.Signed.{mag, shr_z, nat_abs-le}
use mir.Syntax.{Width}
use mir.Val.{SFits, hbits}
use Rattle.whole.specs.Numbers.{plus, minus, size}
use Rattle.whole.proofs.Parts.{add_fact, plus_neg, minus_neg}

size_sum : (z : ℤ) (a b : ℕ) → plus z + b ≡ a + minus z → size z ≤ a + b
size_sum (pos n) a b e = omega arith
size_sum (negsuc n) a b e = omega arith

pub size_add : (a b : ℤ) {m n : ℕ} → size a ≤ m → size b ≤ n → size (a +ℤ b) ≤ m + n
size_add a b h k = omega (arith, size_sum (a +ℤ b) (plus a + plus b) (minus a + minus b) (add_fact a b))

pub size_neg : (a : ℤ) {m : ℕ} → size a ≤ m → size (neg_ℤ a) ≤ m
size_neg a h = omega (arith, plus_neg a, minus_neg a)

abs_neg : (a : ℤ) → nat_abs (neg_ℤ a) ≡ nat_abs a
abs_neg (pos zero) = refl
abs_neg (pos (suc n)) = refl
abs_neg (negsuc n) = refl

abs_mul : (a b : ℤ) → nat_abs (a *ℤ b) ≡ nat_abs a * nat_abs b
abs_mul (pos a) (pos b) = refl
abs_mul (pos a) (negsuc b) = abs_neg (pos (a * suc b))
abs_mul (negsuc a) (pos b) = abs_neg (pos (suc a * b))
abs_mul (negsuc a) (negsuc b) = refl

size_abs : (a : ℤ) → nat_abs a ≡ size a
size_abs (pos n) = omega arith
size_abs (negsuc n) = omega arith

pub size_mul : (a b : ℤ) {m n : ℕ} → size a ≤ m → size b ≤ n → size (a *ℤ b) ≤ m * n
size_mul a b h k = rw (← size_abs (a *ℤ b), abs_mul a b, size_abs a, size_abs b) (mul-le-mul h k)

div_mono : (m : ℕ) {a n : ℕ} → a ≤ n → a / m ≤ n / m
div_mono zero {a} {n} h = omega (arith, div-zero a)
div_mono (suc m) {a} {n} h =
    (le-div_iff_mul-le {k = suc m} {x = a / suc m} {y = n} (omega arith)).1 (le_trans (div-mul-le_self a (suc m)) h)

pub size_shr : (z : ℤ) (m : ℕ) {n : ℕ} → size z ≤ n → size (shr_z z m) ≤ n / m + 1
size_shr (pos a) m {n} h = let k : a / m ≤ n / m = div_mono m (omega arith) in omega arith
size_shr (negsuc a) m {n} h = let k : a / m ≤ n / m = div_mono m (omega arith) in omega arith

-- ---- what a signed type holds

mag_size : (z : ℤ) → mag z ≤ size z
mag_size (pos n) = omega arith
mag_size (negsuc n) = omega arith

pub size_fits : {w : Width} (z : ℤ) → SFits w z → size z ≤ 2 ^ hbits w
size_fits z f = let h = nat_abs-le z f.sfits in omega (arith, size_abs z)

pub fits_size : (w : Width) {z : ℤ} {n : ℕ} → size z ≤ n → T (ltb n (2 ^ hbits w)) → SFits w z
fits_size w {z} {n} h t = record { sfits = lt_of_le_of_lt (le_trans (mag_size z) h) (ltb→lt n (2 ^ hbits w) t) }
