-- Order, equality and bounds of signed numbers, said of their two parts, which omega reads: `omega (arith, zs)`.
use mathlib.Core.Path.{◌≡◌, refl, sym, ap, ◌∙◌, subst}
use mathlib.Core.Bool.{Bool, true, false, not, cond}
use Prim.Native.Nat.{ℕ, zero, suc, ◌+◌, ◌*◌, ◌-◌, ◌<◌, ◌≤◌, max, min}
use native.Mathlib.Omega.{arith}
use native.Mathlib.Nat.{div-add-mod', mod-lt}
use borrow.Author.Tests.{ltb-true, ltb-false, leb-true, leb-false, lt-ltb, le-ltb, le-leb, lt-leb, eq-eqb, ne_eqb, eqb-true}
use lib.Dec.{T, ltb, ltb→lt, nltb→le}
use lib.IntN.{ℤ, pos, negsuc, neg_ℤ, sub_ℕ, ◌+ℤ◌, ◌*ℤ◌}
use lib.Signed.{le_z, lt_z, shr_z, ◌≤ℤ◌, ◌<ℤ◌}
use Rattle.whole.specs.Numbers.{plus, minus, size, Within, eq_z, inside}
use Rattle.whole.proofs.Truth.{never, yes_of, of_yes, both, and}

-- ---- sums, differences and products

choice : (c : Bool) (x y : ℤ) (P : ℤ → Type 0) → (T c → P x) → (T (not c) → P y) → P (cond c x y)
choice true x y P f g = f tt
choice false x y P f g = g tt

sub_fact : (a b : ℕ) → plus (sub_ℕ a b) + b ≡ a + minus (sub_ℕ a b)
sub_fact a b = choice (ltb a b) (negsuc (b - suc a)) (pos (a - b)) (λ z. plus z + b ≡ a + minus z)
    (λ t. let h : a < b = ltb→lt a b t in omega arith)
    (λ t. let h : b ≤ a = nltb→le a b t in omega arith)

pub add_fact : (a b : ℤ) → plus (a +ℤ b) + (minus a + minus b) ≡ (plus a + plus b) + minus (a +ℤ b)
add_fact (pos a) (pos b) = omega arith
add_fact (pos a) (negsuc b) = omega (arith, sub_fact a (suc b))
add_fact (negsuc a) (pos b) = omega (arith, sub_fact b (suc a))
add_fact (negsuc a) (negsuc b) = omega arith

pub plus_neg : (a : ℤ) → plus (neg_ℤ a) ≡ minus a
plus_neg (pos zero) = refl
plus_neg (pos (suc n)) = refl
plus_neg (negsuc n) = refl

pub minus_neg : (a : ℤ) → minus (neg_ℤ a) ≡ plus a
minus_neg (pos zero) = refl
minus_neg (pos (suc n)) = refl
minus_neg (negsuc n) = refl

-- a number multiplied by one that is not negative
pub plus_mul : (a : ℤ) (n : ℕ) → plus (a *ℤ pos n) ≡ plus a * n
plus_mul (pos a) n = refl
plus_mul (negsuc a) n = plus_neg (pos (suc a * n)) ∙ omega arith

pub minus_mul : (a : ℤ) (n : ℕ) → minus (a *ℤ pos n) ≡ minus a * n
minus_mul (pos a) n = omega arith
minus_mul (negsuc a) n = minus_neg (pos (suc a * n))

-- ---- tests

pub lt_yes : (a b : ℤ) → lt_z a b ≡ true → plus a + minus b < plus b + minus a
lt_yes (pos a) (pos b) e = omega (arith, ltb-true)
lt_yes (pos a) (negsuc b) e = never e
lt_yes (negsuc a) (pos b) e = omega arith
lt_yes (negsuc a) (negsuc b) e = omega (arith, ltb-true)

pub lt_no : (a b : ℤ) → lt_z a b ≡ false → plus b + minus a ≤ plus a + minus b
lt_no (pos a) (pos b) e = omega (arith, ltb-false)
lt_no (pos a) (negsuc b) e = omega arith
lt_no (negsuc a) (pos b) e = never (sym e)
lt_no (negsuc a) (negsuc b) e = omega (arith, ltb-false)

pub le_yes : (a b : ℤ) → le_z a b ≡ true → plus a + minus b ≤ plus b + minus a
le_yes (pos a) (pos b) e = omega (arith, leb-true)
le_yes (pos a) (negsuc b) e = never e
le_yes (negsuc a) (pos b) e = omega arith
le_yes (negsuc a) (negsuc b) e = omega (arith, leb-true)

pub le_no : (a b : ℤ) → le_z a b ≡ false → plus b + minus a < plus a + minus b
le_no (pos a) (pos b) e = omega (arith, leb-false)
le_no (pos a) (negsuc b) e = omega arith
le_no (negsuc a) (pos b) e = never (sym e)
le_no (negsuc a) (negsuc b) e = omega (arith, leb-false)

pub yes_lt : (a b : ℤ) → plus a + minus b < plus b + minus a → lt_z a b ≡ true
yes_lt (pos a) (pos b) h = lt-ltb a b (omega arith)
yes_lt (pos a) (negsuc b) h = absurd (omega arith)
yes_lt (negsuc a) (pos b) h = refl
yes_lt (negsuc a) (negsuc b) h = lt-ltb b a (omega arith)

pub no_lt : (a b : ℤ) → plus b + minus a ≤ plus a + minus b → lt_z a b ≡ false
no_lt (pos a) (pos b) h = le-ltb a b (omega arith)
no_lt (pos a) (negsuc b) h = refl
no_lt (negsuc a) (pos b) h = absurd (omega arith)
no_lt (negsuc a) (negsuc b) h = le-ltb b a (omega arith)

pub yes_le : (a b : ℤ) → plus a + minus b ≤ plus b + minus a → le_z a b ≡ true
yes_le (pos a) (pos b) h = le-leb a b (omega arith)
yes_le (pos a) (negsuc b) h = absurd (omega arith)
yes_le (negsuc a) (pos b) h = refl
yes_le (negsuc a) (negsuc b) h = le-leb b a (omega arith)

pub no_le : (a b : ℤ) → plus b + minus a < plus a + minus b → le_z a b ≡ false
no_le (pos a) (pos b) h = lt-leb a b (omega arith)
no_le (pos a) (negsuc b) h = refl
no_le (negsuc a) (pos b) h = absurd (omega arith)
no_le (negsuc a) (negsuc b) h = lt-leb b a (omega arith)

-- ---- facts

pub le_in : {a b : ℤ} → a ≤ℤ b → plus a + minus b ≤ plus b + minus a
le_in {a} {b} h = le_yes a b (yes_of (le_z a b) h.le)

pub lt_in : {a b : ℤ} → a <ℤ b → plus a + minus b < plus b + minus a
lt_in {a} {b} h = lt_yes a b (yes_of (lt_z a b) h.lt)

pub eq_in : {a b : ℤ} → a ≡ b → plus a + minus b ≡ plus b + minus a
eq_in {a} {b} e = subst (λ (z : ℤ). plus a + minus z ≡ plus z + minus a) e refl

pub le_out : {a b : ℤ} → plus a + minus b ≤ plus b + minus a → a ≤ℤ b
le_out {a} {b} h = record { le = of_yes (yes_le a b h) }

pub lt_out : {a b : ℤ} → plus a + minus b < plus b + minus a → a <ℤ b
lt_out {a} {b} h = record { lt = of_yes (yes_lt a b h) }

pub eq_out : (a b : ℤ) → plus a + minus b ≡ plus b + minus a → a ≡ b
eq_out (pos a) (pos b) h = ap pos (omega arith)
eq_out (pos a) (negsuc b) h = absurd (omega arith)
eq_out (negsuc a) (pos b) h = absurd (omega arith)
eq_out (negsuc a) (negsuc b) h = ap negsuc (omega arith)

size_out : (z : ℤ) (n : ℕ) → (plus z ≤ n + minus z) × (minus z ≤ n + plus z) → size z ≤ n
size_out (pos a) n h = omega arith
size_out (negsuc a) n h = omega arith

pub in_out : {z : ℤ} {n : ℕ} → (plus z ≤ n + minus z) × (minus z ≤ n + plus z) → Within n z
in_out {z} {n} h = record { within = size_out z n h }

pub in_turn : {z : ℤ} {n : ℕ} → max (plus z) (minus z) ≤ n + min (plus z) (minus z) → Within n z
in_turn {z = pos a} {n} h = record { within = omega arith }
in_turn {z = negsuc a} {n} h = record { within = omega arith }

-- what omega is handed to read and to prove facts of signed numbers
pub ruleset zs = (le_in, lt_in, eq_in, lt_yes, lt_no, le_yes, le_no, le_out, lt_out, eq_out, yes_lt, no_lt, yes_le, no_le, in_turn)

-- a number that is not negative has no second part, one that is not positive no first
pub no_minus : (z : ℤ) → pos 0 ≤ℤ z → minus z ≡ 0
no_minus (pos n) h = refl
no_minus (negsuc n) h = absurd h.le

pub no_plus : (z : ℤ) → z ≤ℤ pos 0 → plus z ≡ 0
no_plus (pos n) h = omega (arith, zs)
no_plus (negsuc n) h = refl

-- ---- equality and ranges, tested

refl_eq_z : (a : ℤ) → eq_z a a ≡ true
refl_eq_z (pos a) = eq-eqb a a refl
refl_eq_z (negsuc a) = eq-eqb a a refl

pub yes_eq_z : (a b : ℤ) → a ≡ b → eq_z a b ≡ true
yes_eq_z a b e = subst (λ (z : ℤ). eq_z a z ≡ true) e (refl_eq_z a)

pub no_eq_z : (a b : ℤ) → (a ≡ b → ⊥) → eq_z a b ≡ false
no_eq_z (pos a) (pos b) f = ne_eqb a b (λ e. f (ap pos e))
no_eq_z (pos a) (negsuc b) f = refl
no_eq_z (negsuc a) (pos b) f = refl
no_eq_z (negsuc a) (negsuc b) f = ne_eqb a b (λ e. f (ap negsuc e))

pub eq_z_yes : (a b : ℤ) → eq_z a b ≡ true → a ≡ b
eq_z_yes (pos a) (pos b) e = ap pos (eqb-true a b e)
eq_z_yes (pos a) (negsuc b) e = never e
eq_z_yes (negsuc a) (pos b) e = never e
eq_z_yes (negsuc a) (negsuc b) e = ap negsuc (eqb-true a b e)

pub record Between (least most x : ℤ) : Type 0 where
  pub low : least ≤ℤ x
  pub high : x ≤ℤ most

pub inside_yes : (least most x : ℤ) → inside least most x ≡ true → Between least most x
inside_yes least most x e =
    let b = both (le_z least x) (le_z x most) e in
    record { low = record { le = of_yes b.0 }; high = record { le = of_yes b.1 } }

pub yes_inside : (least most x : ℤ) → Between least most x → inside least most x ≡ true
yes_inside least most x b = and (yes_of (le_z least x) b.low.le) (yes_of (le_z x most) b.high.le)

-- ---- the quotient that is rounded down: m q ≤ z < m q + m

pub shr_fact : (z : ℤ) (m : ℕ) → 0 < m →
    (plus (shr_z z m) * m + minus z ≤ plus z + minus (shr_z z m) * m)
    × (plus z + minus (shr_z z m) * m < plus (shr_z z m) * m + m + minus z)
shr_fact (pos a) m h = let e = div-add-mod' a m in let k = mod-lt a h in omega arith
shr_fact (negsuc a) m h = let e = div-add-mod' a m in let k = mod-lt a h in omega arith

-- a number that is not negative is its first part
pub is_pos : (a : ℤ) → pos 0 ≤ℤ a → a ≡ pos (plus a)
is_pos (pos n) h = refl
is_pos (negsuc n) h = absurd h.le
