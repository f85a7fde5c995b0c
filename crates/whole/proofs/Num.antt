-- A signed value as the machine computes it, `to_z w (of_z w ..)` at each step, with the plain number `val` that it is, a
-- bound `top` on its size, and `ok`, whether each value on the way fits the local that it was written to.
-- `search nums` puts a `Num` together by the value's own expression, from bounds `Within N x` in reach; antt computes
-- `top` and `ok`, so the side condition is `tt`.
use mathlib.Core.Path.{◌≡◌, refl, sym, ap, ap₂, ◌∙◌}
use mathlib.Core.Bool.{Bool, true, ◌&&◌}
use Prim.Native.Nat.{ℕ, suc, ◌+◌, ◌*◌, ◌/◌, ◌^◌, ◌≤◌}
use native.Mathlib.Nat.{le_trans}
use native.Mathlib.Omega.{arith}
use lib.Dec.{T, ltb, leb, leb→le}
use lib.IntN.{ℤ, pos, negsuc, neg_ℤ, ◌+ℤ◌, ◌-ℤ◌, ◌*ℤ◌, +ℤ_idl}
use lib.Signed.{shr_z, lt_z, le_z}
use mir.Syntax.{Width, w32, w64}
use mir.Val.{SFits, hbits, to_z, of_z}
use mir.Facts.{to_z-of_z, and_yes}
use Rattle.whole.specs.Numbers.{size, Within}
use Rattle.whole.proofs.Sizes.{size_add, size_neg, size_mul, size_shr, size_fits, fits_size}

pub record Num (z : ℤ) : Type 0 where
  pub val : ℤ
  pub top : ℕ
  pub ok : Bool
  pub is : T ok → z ≡ val
  pub small : T ok → size val ≤ top

-- ---- where a value comes from: a bound in reach, a literal, a parameter, a local, a call

abbrev pub num_in : {z : ℤ} {n : ℕ} → Within n z → Num z
num_in {z} {n} h = record { val = z; top = n; ok = true; is = λ _. refl; small = λ _. h.within }

abbrev pub num_pos : {n : ℕ} → Num (pos n)
num_pos {n} = record { val = pos n; top = n; ok = true; is = λ _. refl; small = λ _. omega arith }

abbrev pub num_negsuc : {n : ℕ} → Num (negsuc n)
num_negsuc {n} = record { val = negsuc n; top = suc n; ok = true; is = λ _. refl; small = λ _. omega arith }

-- a value of which only its type is known: it is passed on as it is
abbrev pub num_i32 : {z : ℤ} → SFits w32 z → Num (to_z w32 (of_z w32 z))
num_i32 {z} f = record { val = z; top = 2147483648; ok = true; is = λ _. to_z-of_z f; small = λ _. size_fits z f }

abbrev pub num_i64 : {z : ℤ} → SFits w64 z → Num (to_z w64 (of_z w64 z))
num_i64 {z} f = record { val = z; top = 9223372036854775808; ok = true; is = λ _. to_z-of_z f; small = λ _. size_fits z f }

-- what is written to a local of either width and read back
pub back_is : (w : Width) {z : ℤ} (a : Num z) → T (a.ok && ltb a.top (2 ^ hbits w)) → to_z w (of_z w z) ≡ a.val
back_is w {z} a t =
    let b : T a.ok × T (ltb a.top (2 ^ hbits w)) = and_yes a.ok (ltb a.top (2 ^ hbits w)) t in
    ap (λ (x : ℤ). to_z w (of_z w x)) (a.is b.0) ∙ to_z-of_z (fits_size w (a.small b.0) b.1)

abbrev pub num_back : {z : ℤ} (a : Num z) → Num (to_z w64 (of_z w64 z))
num_back {z} a = record {
  val = a.val;
  top = a.top;
  ok = a.ok && ltb a.top (2 ^ 63);
  is = back_is w64 a;
  small = λ t. a.small (and_yes a.ok (ltb a.top (2 ^ 63)) t).0;
}

abbrev pub num_back32 : {z : ℤ} (a : Num z) → Num (to_z w32 (of_z w32 z))
num_back32 {z} a = record {
  val = a.val;
  top = a.top;
  ok = a.ok && ltb a.top (2 ^ 31);
  is = back_is w32 a;
  small = λ t. a.small (and_yes a.ok (ltb a.top (2 ^ 31)) t).0;
}

-- a call's result, by what the call ensures of it
abbrev pub num_via : {z y : ℤ} → z ≡ y → Num y → Num z
num_via {z} {y} e a = record { val = a.val; top = a.top; ok = a.ok; is = λ t. e ∙ a.is t; small = a.small }

-- ---- what is computed

abbrev pub num_add : {a b : ℤ} → Num a → Num b → Num (a +ℤ b)
num_add {a} {b} x y = record {
  val = x.val +ℤ y.val;
  top = x.top + y.top;
  ok = x.ok && y.ok;
  is = λ t. let b = and_yes x.ok y.ok t in ap₂ (λ (p q : ℤ). p +ℤ q) (x.is b.0) (y.is b.1);
  small = λ t. let b = and_yes x.ok y.ok t in size_add x.val y.val (x.small b.0) (y.small b.1);
}

abbrev pub num_neg : {a : ℤ} → Num a → Num (neg_ℤ a)
num_neg {a} x = record {
  val = neg_ℤ x.val;
  top = x.top;
  ok = x.ok;
  is = λ t. ap neg_ℤ (x.is t);
  small = λ t. size_neg x.val (x.small t);
}

-- `-x` is computed as `0 - x`
abbrev pub num_minus : {a : ℤ} → Num a → Num (pos 0 -ℤ a)
num_minus {a} x = record {
  val = neg_ℤ x.val;
  top = x.top;
  ok = x.ok;
  is = λ t. +ℤ_idl (neg_ℤ a) ∙ ap neg_ℤ (x.is t);
  small = λ t. size_neg x.val (x.small t);
}

abbrev pub num_mul : {a b : ℤ} → Num a → Num b → Num (a *ℤ b)
num_mul {a} {b} x y = record {
  val = x.val *ℤ y.val;
  top = x.top * y.top;
  ok = x.ok && y.ok;
  is = λ t. let b = and_yes x.ok y.ok t in ap₂ (λ (p q : ℤ). p *ℤ q) (x.is b.0) (y.is b.1);
  small = λ t. let b = and_yes x.ok y.ok t in size_mul x.val y.val (x.small b.0) (y.small b.1);
}

abbrev pub num_shr : {a : ℤ} (m : ℕ) → Num a → Num (shr_z a m)
num_shr {a} m x = record {
  val = shr_z x.val m;
  top = x.top / m + 1;
  ok = x.ok;
  is = λ t. ap (λ (p : ℤ). shr_z p m) (x.is t);
  small = λ t. size_shr x.val m (x.small t);
}

-- ---- what a need asks, from a Num

-- a value fits its type: `fits (search nums) tt`
pub fits : {w : Width} {z : ℤ} (a : Num z) → T (a.ok && ltb a.top (2 ^ hbits w)) → SFits w z
fits {w} {z} a t =
    let b : T a.ok × T (ltb a.top (2 ^ hbits w)) = and_yes a.ok (ltb a.top (2 ^ hbits w)) t in
    rw (a.is b.0) (fits_size w (a.small b.0) b.1)

-- a callee's bound holds: `stays (search nums) tt`
pub stays : {z : ℤ} {n : ℕ} (a : Num z) → T (a.ok && leb a.top n) → Within n z
stays {z} {n} a t =
    let b : T a.ok × T (leb a.top n) = and_yes a.ok (leb a.top n) t in
    rw (a.is b.0) (record { within = le_trans (a.small b.0) (leb→le a.top n b.1) })

-- a value is what its definition says: `gives (search nums) tt refl`
pub gives : {z : ℤ} (a : Num z) {r : ℤ} → T a.ok → a.val ≡ r → z ≡ r
gives a t e = a.is t ∙ e

-- a function of values is the function of the plain numbers
pub same3 : (f : ℤ → ℤ → ℤ → ℤ) {a b c : ℤ} (x : Num a) (y : Num b) (z : Num c) → T (x.ok && (y.ok && z.ok)) →
    f a b c ≡ f x.val y.val z.val
same3 f x y z t =
    let p = and_yes x.ok (y.ok && z.ok) t in
    let q = and_yes y.ok z.ok p.1 in
    rw (x.is p.0, y.is q.0, z.is q.1)

pub same4 : (f : ℤ → ℤ → ℤ → ℤ → ℤ) {a b c d : ℤ} (x : Num a) (y : Num b) (z : Num c) (u : Num d) →
    T (x.ok && (y.ok && (z.ok && u.ok))) → f a b c d ≡ f x.val y.val z.val u.val
same4 f x y z u t =
    let p = and_yes x.ok (y.ok && (z.ok && u.ok)) t in
    let q = same3 (f x.val) y z u p.1 in
    rw (x.is p.0) q

-- ---- tests

pub record Flag (b : Bool) : Type 0 where
  pub val : Bool
  pub ok : Bool
  pub is : T ok → b ≡ val

abbrev pub flag_lt : {a b : ℤ} → Num a → Num b → Flag (lt_z a b)
flag_lt {a} {b} x y = record {
  val = lt_z x.val y.val;
  ok = x.ok && y.ok;
  is = λ t. let b = and_yes x.ok y.ok t in ap₂ (λ (p q : ℤ). lt_z p q) (x.is b.0) (y.is b.1);
}

abbrev pub flag_le : {a b : ℤ} → Num a → Num b → Flag (le_z a b)
flag_le {a} {b} x y = record {
  val = le_z x.val y.val;
  ok = x.ok && y.ok;
  is = λ t. let b = and_yes x.ok y.ok t in ap₂ (λ (p q : ℤ). le_z p q) (x.is b.0) (y.is b.1);
}

-- a test's outcome, said of the plain numbers: `test c.if1.taken (search nums) tt`
pub test : {b t : Bool} → b ≡ t → (f : Flag b) → T f.ok → f.val ≡ t
test e f k = sym (f.is k) ∙ e

pub ruleset nums = (num_back, num_back32, num_minus, num_add, num_neg, num_mul, num_shr, num_pos, num_negsuc, num_in, num_i32, flag_lt, flag_le)

-- where nothing is known of a value but its type
pub ruleset whole = (num_back, num_back32, num_i64, num_i32, num_pos, num_negsuc, flag_lt, flag_le)
