-- How large what the sample's arithmetic gives is: by laws, and for the machine's values by `search (nums, calls)`.
use Prim.Native.Nat.{ℕ, max, ◌≤◌}
use mathlib.Core.Path.{◌≡◌, sym, subst}
use mathlib.Core.Bool.{Bool, cond, ◌&&◌}
use native.Mathlib.Omega.{arith}
use lib.Dec.{T}
use lib.IntN.{ℤ, pos, neg_ℤ, ◌+ℤ◌, ◌-ℤ◌, ◌*ℤ◌}
use lib.Signed.{lt_z, ◌≤ℤ◌}
use mir.Facts.{and_yes}
use Rattle.whole.specs.Numbers.{plus, size, Within}
use Rattle.whole.proofs.Truth.{chosen}
use Rattle.whole.proofs.Parts.{zs, is_pos, Between}
use Rattle.whole.proofs.Lin.{Lin, at, lins}
use Rattle.whole.proofs.Num.{Num, nums, stays}
use Rattle.record.specs.Units.{F}
use Rattle.pid.specs.Units.{part, rounded}
use Rattle.settings.specs.Table.{share}
use Rattle.pid.specs.Bounds.{SlopeOk}
use Rattle.pid.specs.Sample.{lesser, greater, limited, ramped, filtered, derivative, clamped}
use Rattle.pid.proofs.Rounding.{rounded_within, share_high, share_low, num_rounded}

-- what holds of both holds of the smaller, of the larger, and of a number limited to them
pub lesser_of : (P : ℤ → Type 0) (a b : ℤ) → P a → P b → P (lesser a b)
unfolding lesser
lesser_of P a b p q = chosen P (lt_z a b) (λ _. p) (λ _. q)

pub greater_of : (P : ℤ → Type 0) (a b : ℤ) → P a → P b → P (greater a b)
unfolding greater
greater_of P a b p q = chosen P (lt_z a b) (λ _. q) (λ _. p)

pub limited_within : (x lo hi : ℤ) {n : ℕ} → Within n lo → Within n hi → Within n (limited x lo hi)
unfolding limited
limited_within x lo hi {n} h k =
    chosen (Within n) (lt_z x lo) (λ e. h) (λ e. chosen (Within n) (lt_z hi x) (λ f. k) (λ f. omega (arith, zs)))

-- w stays in reach on its way to the target
pub ramped_within : (w t r : ℤ) {n : ℕ} → Within n w → Within n t → pos 0 ≤ℤ r → Within n (ramped w t r)
unfolding ramped lesser
ramped_within w t r {n} h k p =
    let R = at r in
    let U : Lin (t -ℤ w) = search lins in
    let D : Lin (w -ℤ t) = search lins in
    let A : Lin (w +ℤ r) = search lins in
    let A' : Lin (w +ℤ (t -ℤ w)) = search lins in
    let S : Lin (w -ℤ r) = search lins in
    let S' : Lin (w -ℤ (w -ℤ t)) = search lins in
    chosen (Within n) (lt_z w t)
    (λ e. chosen (λ (z : ℤ). Within n (w +ℤ z)) (lt_z r (t -ℤ w)) (λ f. omega (arith, zs)) (λ f. omega (arith, zs)))
    (λ e. chosen (λ (z : ℤ). Within n (w -ℤ z)) (lt_z r (w -ℤ t)) (λ f. omega (arith, zs)) (λ f. omega (arith, zs)))

-- y' lies between y and x, so it stays in reach
followed : (y x : ℤ) (k : ℕ) {n : ℕ} → Within n y → Within n x → k ≤ F → Within n (y +ℤ rounded ((x -ℤ y) *ℤ pos k))
followed y x k {n} hy hx hk =
    let up = pos n -ℤ y in
    let down = pos n +ℤ y in
    let D : Lin (x -ℤ y) = search lins in
    let U : Lin (pos n -ℤ y) = search lins in
    let W : Lin (pos n +ℤ y) = search lins in
    let W' : Lin (neg_ℤ (pos n +ℤ y)) = search lins in
    let a = share_high (x -ℤ y) up {k = k} (omega (arith, zs)) (omega (arith, zs)) hk in
    let b = share_low (x -ℤ y) down {k = k} (omega (arith, zs)) (omega (arith, zs)) hk in
    let R = at (rounded ((x -ℤ y) *ℤ pos k)) in
    let A : Lin (y +ℤ rounded ((x -ℤ y) *ℤ pos k)) = search lins in
    omega (arith, zs)

pub filtered_within : (primed : Bool) (y x alpha : ℤ) {n : ℕ} → Within n y → Within n x → pos 0 ≤ℤ alpha → Within share alpha →
    Within n (filtered primed y x alpha)
unfolding filtered
filtered_within primed y x alpha {n} hy hx h k =
    chosen (Within n) primed
    (λ e. subst (λ (a : ℤ). Within n (y +ℤ rounded ((x -ℤ y) *ℤ a))) (sym (is_pos alpha h)) (followed y x (plus alpha) hy hx (omega (arith, zs))))
    (λ e. hx)

-- clamping moves I no further than the room that the limit leaves, or not at all
pub clamped_within : (i g top bottom : ℤ) {n : ℕ} → Within n i → Within n top → Within n bottom → Within n (clamped i g top bottom)
unfolding clamped lesser greater
clamped_within i g top bottom {n} hi ht hb =
    let G = at g in
    let S : Lin (i +ℤ g) = search lins in
    chosen (Within n) (lt_z (pos 0) g)
    (λ e. chosen (λ (z : ℤ). Within n (cond (lt_z i z) z i)) (lt_z (i +ℤ g) top)
    (λ a. chosen (Within n) (lt_z i (i +ℤ g)) (λ b. omega (arith, zs)) (λ b. hi))
    (λ a. chosen (Within n) (lt_z i top) (λ b. ht) (λ b. hi)))
    (λ e. chosen (Within n) (lt_z g (pos 0))
    (λ d. chosen (λ (z : ℤ). Within n (cond (lt_z i z) i z)) (lt_z (i +ℤ g) bottom)
    (λ a. chosen (Within n) (lt_z i bottom) (λ b. hi) (λ b. hb))
    (λ a. chosen (Within n) (lt_z i (i +ℤ g)) (λ b. hi) (λ b. omega (arith, zs))))
    (λ d. hi))

pub derivative_within : (primed : Bool) (kd sign y after : ℤ) → SlopeOk kd sign y after → Within part (derivative primed kd sign y after)
unfolding derivative
derivative_within primed kd sign y after k =
    chosen (Within part) primed
    (λ _. rounded_within (kd *ℤ sign *ℤ (y -ℤ after)) 8388608000000 (stays (search nums depth 12) tt))
    (λ _. record { within = omega arith })

pub limited_between : (x lo hi : ℤ) → lo ≤ℤ hi → Between lo hi (limited x lo hi)
unfolding limited
limited_between x lo hi h =
    let X = at x in
    let A = at lo in
    let B = at hi in
    chosen (Between lo hi) (lt_z x lo) (λ e. record { low = omega (arith, zs); high = h })
    (λ e. chosen (Between lo hi) (lt_z hi x) (λ d. record { low = h; high = omega (arith, zs) }) (λ d. record { low = omega (arith, zs); high = omega (arith, zs) }))

-- ---- for the machine's values

module _ {a b : ℤ} (x : Num a) (y : Num b) (t : T (x.ok && y.ok)) where
  both_in : Within (max x.top y.top) x.val × Within (max x.top y.top) y.val
  both_in =
      let s = and_yes x.ok y.ok t in
      let p = x.small s.0 in
      let q = y.small s.1 in
      (record { within = omega arith }, record { within = omega arith })

  pub lesser_small : size (lesser x.val y.val) ≤ max x.top y.top
  lesser_small = (lesser_of (Within (max x.top y.top)) x.val y.val both_in.0 both_in.1).within

  pub greater_small : size (greater x.val y.val) ≤ max x.top y.top
  greater_small = (greater_of (Within (max x.top y.top)) x.val y.val both_in.0 both_in.1).within

  pub two_is : (f : ℤ → ℤ → ℤ) → f a b ≡ f x.val y.val
  two_is f = let s = and_yes x.ok y.ok t in rw (x.is s.0, y.is s.1)

  pub limited_small : {c : ℤ} (z : Num c) → T z.ok → size (limited z.val x.val y.val) ≤ max x.top y.top
  limited_small z u = (limited_within z.val x.val y.val both_in.0 both_in.1).within

abbrev pub num_lesser : {a b : ℤ} → Num a → Num b → Num (lesser a b)
num_lesser x y = record {
  val = lesser x.val y.val;
  top = max x.top y.top;
  ok = x.ok && y.ok;
  is = λ t. two_is x y t lesser;
  small = λ t. lesser_small x y t;
}

abbrev pub num_greater : {a b : ℤ} → Num a → Num b → Num (greater a b)
num_greater x y = record {
  val = greater x.val y.val;
  top = max x.top y.top;
  ok = x.ok && y.ok;
  is = λ t. two_is x y t greater;
  small = λ t. greater_small x y t;
}

pub limited_is : {a b c : ℤ} (x : Num a) (y : Num b) (z : Num c) → T (z.ok && (x.ok && y.ok)) →
    limited c a b ≡ limited z.val x.val y.val
limited_is x y z t =
    let s = and_yes z.ok (x.ok && y.ok) t in
    let r = and_yes x.ok y.ok s.1 in
    rw (z.is s.0, x.is r.0, y.is r.1)

abbrev pub num_limited : {a b c : ℤ} → Num c → Num a → Num b → Num (limited c a b)
num_limited z x y = record {
  val = limited z.val x.val y.val;
  top = max x.top y.top;
  ok = z.ok && (x.ok && y.ok);
  is = limited_is x y z;
  small = λ t. let s = and_yes z.ok (x.ok && y.ok) t in limited_small x y s.1 z s.0;
}

-- for what the functions of the arithmetic ensure
pub ruleset calls = (num_rounded, num_lesser, num_greater, num_limited)
