-- Laws of `nearest`, each shown once, for any number and any divisor. Whoever rounds goes by these.
use Prim.Native.Nat.{ℕ, suc, ◌+◌, ◌*◌, ◌≤◌, ◌<◌}
use mathlib.Core.Path.{◌≡◌, refl, sym}
use native.Mathlib.Omega.{arith}
use native.Mathlib.Nat.{div-add-mod', mod-lt, lt_of_mul-lt-mul_right}
use lib.Dec.{lit<}
use lib.IntN.{ℤ, pos, negsuc, neg_ℤ, ◌+ℤ◌, ◌-ℤ◌, ◌*ℤ◌}
use lib.Signed.{lt_z, ◌≤ℤ◌, ◌<ℤ◌}
use Rattle.whole.specs.Numbers.{plus, minus, Within}
use Rattle.whole.specs.Rounding.{half, half_up, nearest, IsNearest}
use Rattle.whole.proofs.Truth.{by_test}
use Rattle.whole.proofs.Parts.{zs, eq_out, plus_neg, minus_neg, plus_mul, minus_mul}
use Rattle.whole.proofs.Lin.{Lin, at, lins, mul_high, mul_low}

-- ---- numbers without a sign

-- multiples of n less than n apart are in order
in_order : (p q n : ℕ) → p * n < q * n + n → p ≤ q
in_order p q n h =
    let k : p < suc q = lt_of_mul-lt-mul_right n {m = p} {n = suc q} (omega arith) in
    omega arith

-- n is twice its half, or one more
half_is : (n : ℕ) → (2 * half n ≤ n) × (n ≤ 2 * half n + 1)
half_is n = let e = div-add-mod' n 2 in let h = mod-lt n {m = 2} (lit< tt) in omega arith

-- 2 n q - n ≤ 2 a < 2 n q + n, for q = a / n rounded
half_low : (a n : ℕ) → 2 * (half_up a n * n) ≤ 2 * a + n
half_low a n = omega (arith, div-add-mod' (a + half n) n, half_is n)

half_high : (a n : ℕ) → 0 < n → 2 * a < 2 * (half_up a n * n) + n
half_high a n h = omega (arith, div-add-mod' (a + half n) n, mod-lt (a + half n) h, half_is n)

half_mono : (a b n : ℕ) → 0 < n → a ≤ b → half_up a n ≤ half_up b n
half_mono a b n h le = in_order (half_up a n) (half_up b n) n (omega (arith, half_low a n, half_high b n h))

half_exact : (k n : ℕ) → 0 < n → half_up (k * n) n ≡ k
half_exact k n h =
    let a = in_order (half_up (k * n) n) k n (omega (arith, half_low (k * n) n)) in
    let b = in_order k (half_up (k * n) n) n (omega (arith, half_high (k * n) n h)) in
    omega arith

half_zero : (n : ℕ) → 0 < n → half_up 0 n ≡ 0
half_zero n h = let a = in_order (half_up 0 n) 0 n (omega (arith, half_low 0 n)) in omega arith

-- ---- the two parts of a rounded number

plus_nearest : (x : ℤ) (n : ℕ) → 0 < n → plus (nearest x n) ≡ half_up (plus x) n
plus_nearest (pos a) n h = refl
plus_nearest (negsuc a) n h = rw (plus_neg, half_zero n h)

minus_nearest : (x : ℤ) (n : ℕ) → 0 < n → minus (nearest x n) ≡ half_up (minus x) n
minus_nearest (pos a) n h = sym (half_zero n h)
minus_nearest (negsuc a) n h = rw minus_neg

-- ---- what rounding means

-- the two bounds, and the rule for halves
pub nearest_is : (x : ℤ) (n : ℕ) → 0 < n → IsNearest x n (nearest x n)
nearest_is (pos a) n h =
    let q = half_up a n in
    let l = half_low a n in
    let g = half_high a n h in
    let D : Lin ((pos q *ℤ pos n -ℤ pos a) *ℤ pos 2) = search lins in
    let U : Lin (pos q *ℤ pos n *ℤ pos 2 +ℤ pos n) = search lins in
    record { near = omega (arith, zs); up = λ _. omega (arith, zs); down = λ e. absurd (omega (arith, zs)) }
nearest_is (negsuc a) n h =
    let q = half_up (suc a) n in
    let l = half_low (suc a) n in
    let g = half_high (suc a) n h in
    let D : Lin ((neg_ℤ (pos q) *ℤ pos n -ℤ negsuc a) *ℤ pos 2) = search lins in
    let R : Lin (neg_ℤ (pos q) *ℤ pos n *ℤ pos 2) = search lins in
    let X : Lin (negsuc a *ℤ pos 2 +ℤ pos n) = search lins in
    record { near = omega (arith, zs); up = λ e. absurd (omega (arith, zs)); down = λ _. omega (arith, zs) }

-- multiples of n less than n apart are in order
order : (r s : ℤ) (n : ℕ) → (r *ℤ pos n) <ℤ (s *ℤ pos n +ℤ pos n) → r ≤ℤ s
order r s n h =
    let R = at r in
    let S = at s in
    let A : Lin (r *ℤ pos n) = search lins in
    let B : Lin (s *ℤ pos n +ℤ pos n) = search lins in
    let k = in_order (plus r + minus s) (plus s + minus r) n (omega (arith, zs)) in
    omega (arith, zs)

below : (x : ℤ) (n : ℕ) (r s : ℤ) → IsNearest x n r → IsNearest x n s → r ≤ℤ s
below x n r s a b =
    let X = at x in
    let R = at r in
    let S = at s in
    let A : Lin (r *ℤ pos n) = search lins in
    let A2 : Lin (r *ℤ pos n *ℤ pos 2) = search lins in
    let B : Lin (s *ℤ pos n +ℤ pos n) = search lins in
    let B2 : Lin (s *ℤ pos n *ℤ pos 2 +ℤ pos n) = search lins in
    let D : Lin ((r *ℤ pos n -ℤ x) *ℤ pos 2) = search lins in
    let E : Lin ((s *ℤ pos n -ℤ x) *ℤ pos 2) = search lins in
    let X2 : Lin (x *ℤ pos 2) = search lins in
    let X3 : Lin (x *ℤ pos 2 +ℤ pos n) = search lins in
    order r s n
    (by_test (lt_z x (pos 0))
    (λ e. let d = a.down (omega (arith, zs)) in let f = b.near in omega (arith, zs))
    (λ e. let d = b.up (omega (arith, zs)) in let f = a.near in omega (arith, zs)))

-- they determine it
pub nearest_only : (x : ℤ) (n : ℕ) (r : ℤ) → 0 < n → IsNearest x n r → nearest x n ≡ r
nearest_only x n r h a =
    let b = nearest_is x n h in
    let R = at r in
    let S = at (nearest x n) in
    let l = below x n r (nearest x n) a b in
    let g = below x n (nearest x n) r b a in
    omega (arith, zs)

-- ---- laws

-- it is odd: the opposite of x gives the opposite result
pub nearest_neg : (x : ℤ) (n : ℕ) → 0 < n → nearest (neg_ℤ x) n ≡ neg_ℤ (nearest x n)
nearest_neg x n h =
    eq_out (nearest (neg_ℤ x) n) (neg_ℤ (nearest x n))
    (rw (plus_neg (nearest x n), minus_neg (nearest x n), plus_nearest (neg_ℤ x) n h, minus_nearest (neg_ℤ x) n h, plus_nearest x n h, minus_nearest x n h, plus_neg x, minus_neg x))

-- of two numbers in order each part is in order
parts : (x y : ℤ) → x ≤ℤ y → (plus x ≤ plus y) × (minus y ≤ minus x)
parts (pos a) (pos b) h = (omega (arith, zs), omega arith)
parts (pos a) (negsuc b) h = absurd (omega (arith, zs))
parts (negsuc a) (pos b) h = (omega arith, omega arith)
parts (negsuc a) (negsuc b) h = (omega arith, omega (arith, zs))

-- it is monotone
pub nearest_mono : (x y : ℤ) (n : ℕ) → 0 < n → x ≤ℤ y → nearest x n ≤ℤ nearest y n
nearest_mono x y n h le =
    let p = parts x y le in
    let up = half_mono (plus x) (plus y) n h p.0 in
    let down = half_mono (minus y) (minus x) n h p.1 in
    omega (arith, zs, plus_nearest x n h, minus_nearest x n h, plus_nearest y n h, minus_nearest y n h)

-- it is exact at multiples of n
pub nearest_exact : (k : ℤ) (n : ℕ) → 0 < n → nearest (k *ℤ pos n) n ≡ k
nearest_exact k n h =
    eq_out (nearest (k *ℤ pos n) n) k
    (rw (plus_nearest (k *ℤ pos n) n h, minus_nearest (k *ℤ pos n) n h, plus_mul k n, minus_mul k n, half_exact (plus k) n h, half_exact (minus k) n h))

-- a share of d that is at most the whole, k / n with k ≤ n, passes no bound that d keeps
pub share_high : (d a : ℤ) (n : ℕ) {k : ℕ} → 0 < n → d ≤ℤ a → pos 0 ≤ℤ a → k ≤ n → nearest (d *ℤ pos k) n ≤ℤ a
share_high d a n {k} p h g e =
    rw (nearest_exact a n p) at (nearest_mono (d *ℤ pos k) (a *ℤ pos n) n p (mul_high d a {n = k} {m = n} h g e))

pub share_low : (d a : ℤ) (n : ℕ) {k : ℕ} → 0 < n → neg_ℤ a ≤ℤ d → pos 0 ≤ℤ a → k ≤ n → neg_ℤ a ≤ℤ nearest (d *ℤ pos k) n
share_low d a n {k} p h g e =
    rw (nearest_neg (a *ℤ pos n) n p, nearest_exact a n p)
    at (nearest_mono (neg_ℤ (a *ℤ pos n)) (d *ℤ pos k) n p (mul_low d a {n = k} {m = n} h g e))

-- rounding a number within ±(m n) gives one within ±m
pub nearest_within : (x : ℤ) (m n : ℕ) → 0 < n → Within (m * n) x → Within m (nearest x n)
nearest_within x m n h w =
    let p = half_mono (plus x) (m * n) n h (omega (arith, zs)) in
    let q = half_mono (minus x) (m * n) n h (omega (arith, zs)) in
    omega (arith, zs, plus_nearest x n h, minus_nearest x n h, half_exact m n h)
