-- Linear expressions over signed numbers, each as a difference p - m of two numbers that omega reads.
-- `let L : Lin EXPR = search lins in`, once for each compound expression, then `omega (arith, zs)`.
use mathlib.Core.Path.{◌≡◌, refl, ap}
use Prim.Native.Nat.{ℕ, suc, ◌+◌, ◌*◌, ◌<◌, ◌≤◌}
use native.Mathlib.Nat.{mul-le-mul_left, mul-le-mul_right}
use native.Mathlib.Omega.{arith}
use lib.IntN.{ℤ, pos, negsuc, neg_ℤ, ◌+ℤ◌, ◌*ℤ◌}
use lib.Signed.{shr_z, ◌≤ℤ◌, ◌<ℤ◌}
use Rattle.whole.specs.Numbers.{plus, minus, Within}
use Rattle.whole.proofs.Parts.{add_fact, plus_neg, minus_neg, plus_mul, minus_mul, le_in, le_out, shr_fact, eq_out, zs}

pub record Lin (z : ℤ) : Type 0 where
  pub p : ℕ
  pub m : ℕ
  pub is : plus z + m ≡ p + minus z

pub is_add : {a b : ℤ} (x : Lin a) (y : Lin b) → plus (a +ℤ b) + (x.m + y.m) ≡ (x.p + y.p) + minus (a +ℤ b)
is_add {a} {b} x y = omega (arith, add_fact a b)

pub is_neg : {a : ℤ} (x : Lin a) → plus (neg_ℤ a) + x.p ≡ x.m + minus (neg_ℤ a)
is_neg {a} x = omega (arith, plus_neg a, minus_neg a)

pub is_mul : {a : ℤ} (x : Lin a) (n : ℕ) → plus (a *ℤ pos n) + x.m * n ≡ x.p * n + minus (a *ℤ pos n)
is_mul {a} x n = omega (arith, plus_mul a n, minus_mul a n, ap (λ (k : ℕ). k * n) x.is)

-- a number that is taken as it stands
abbrev pub at : (z : ℤ) → Lin z
at z = record { p = plus z; m = minus z; is = refl }

-- one whose size is bounded in reach is such a number
abbrev pub lin_in : {z : ℤ} {n : ℕ} → Within n z → Lin z
lin_in {z} h = at z

abbrev pub lin_pos : {n : ℕ} → Lin (pos n)
lin_pos {n} = record { p = n; m = 0; is = refl }

abbrev pub lin_negsuc : {n : ℕ} → Lin (negsuc n)
lin_negsuc {n} = record { p = 0; m = suc n; is = omega arith }

abbrev pub lin_add : {a b : ℤ} → Lin a → Lin b → Lin (a +ℤ b)
lin_add x y = record { p = x.p + y.p; m = x.m + y.m; is = is_add x y }

abbrev pub lin_neg : {a : ℤ} → Lin a → Lin (neg_ℤ a)
lin_neg x = record { p = x.m; m = x.p; is = is_neg x }

abbrev pub lin_mul : {a : ℤ} (n : ℕ) → Lin a → Lin (a *ℤ pos n)
lin_mul n x = record { p = x.p * n; m = x.m * n; is = is_mul x n }

pub ruleset lins = (lin_add, lin_neg, lin_mul, lin_pos, lin_negsuc, lin_in)

-- two linear expressions are equal where their parts say so
pub eq! : {a b : ℤ} (x : Lin a) (y : Lin b) → x.p + y.m ≡ y.p + x.m → a ≡ b
eq! {a} {b} x y h = eq_out a b (omega arith)

-- ---- the quotient by m that is rounded down: m q ≤ z < m q + m

pub floor_low : (z : ℤ) (m : ℕ) → 0 < m → (shr_z z m *ℤ pos m) ≤ℤ z
floor_low z m h =
    let f = shr_fact z m h in
    let Q : Lin (shr_z z m *ℤ pos m) = lin_mul m (at (shr_z z m)) in
    omega (arith, zs)

pub floor_high : (z : ℤ) (m : ℕ) → 0 < m → z <ℤ (shr_z z m *ℤ pos m +ℤ pos m)
floor_high z m h =
    let f = shr_fact z m h in
    let Q : Lin (shr_z z m *ℤ pos m +ℤ pos m) = lin_add (lin_mul m (at (shr_z z m))) (lin_pos {n = m}) in
    omega (arith, zs)

-- ---- products with factors that are not negative

-- d ≤ k, 0 ≤ k and n ≤ m give d n ≤ k m
pub mul_high : (d k : ℤ) {n m : ℕ} → d ≤ℤ k → pos 0 ≤ℤ k → n ≤ m → (d *ℤ pos n) ≤ℤ (k *ℤ pos m)
mul_high d (pos j) {n} {m} h g e =
    le_out (omega (arith, plus_mul d n, minus_mul d n, mul-le-mul_left j e, mul-le-mul_right n (le_in h)))
mul_high d (negsuc j) h g e = absurd g.le

-- and the same from below
pub mul_low : (d k : ℤ) {n m : ℕ} → neg_ℤ k ≤ℤ d → pos 0 ≤ℤ k → n ≤ m → neg_ℤ (k *ℤ pos m) ≤ℤ (d *ℤ pos n)
mul_low d (pos j) {n} {m} h g e =
    let q = plus_neg (pos j) in
    let r = minus_neg (pos j) in
    let q' = plus_neg (pos (j * m)) in
    let r' = minus_neg (pos (j * m)) in
    le_out
    (omega
    (arith, plus_mul d n, minus_mul d n, mul-le-mul_left j e, mul-le-mul_right n (le_in h), ap (λ (x : ℕ). x * n) q, ap (λ (x : ℕ). x * n) r))
mul_low d (negsuc j) h g e = absurd g.le
