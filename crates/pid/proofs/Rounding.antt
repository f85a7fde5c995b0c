-- Laws of `rounded`, each an instance of a law of `nearest` (whole/proofs/Nearest.antt). Whoever uses `rounded` goes by these.
use Prim.Native.Nat.{ℕ, ◌+◌, ◌*◌, ◌/◌, ◌≤◌}
use mathlib.Core.Path.{◌≡◌, ap, sym}
use native.Mathlib.Omega.{arith}
use native.Mathlib.Nat.{div-add-mod', div-eq_of_lt, mod-lt}
use lib.Dec.{T, lit<}
use lib.IntN.{ℤ, pos, negsuc, neg_ℤ, ◌+ℤ◌, ◌-ℤ◌, ◌*ℤ◌}
use lib.Signed.{shr_z, ◌≤ℤ◌, ◌<ℤ◌}
use Rattle.whole.specs.Numbers.{size, Within}
use Rattle.whole.proofs.Parts.{zs, Between}
use Rattle.whole.proofs.Lin.{Lin, at, lins, floor_low, floor_high}
use Rattle.whole.proofs.Num.{Num}
use Rattle.whole.proofs.Nearest.{nearest_only, nearest_neg, nearest_mono, nearest_exact, nearest_within, share_high as nearest-share-high, share_low as nearest-share-low}
use Rattle.record.specs.Units.{F}
use Rattle.pid.specs.Units.{product, rounded}

-- the opposite of x gives the opposite result
pub rounded_neg : (x : ℤ) → rounded (neg_ℤ x) ≡ neg_ℤ (rounded x)
unfolding rounded
rounded_neg x = nearest_neg x 65536 (lit< tt)

-- rounding a number within ±(n F) gives one within ±n
pub rounded_within : (x : ℤ) (n : ℕ) → Within (n * F) x → Within n (rounded x)
unfolding rounded
rounded_within x n h = nearest_within x n 65536 (lit< tt) h

-- a fine amount within lo × F..hi × F is rounded to one within lo..hi
pub rounded_between : (x lo hi : ℤ) → (lo *ℤ pos F) ≤ℤ x → x ≤ℤ (hi *ℤ pos F) → Between lo hi (rounded x)
unfolding rounded
rounded_between x lo hi l h =
    record {
      low = rw (nearest_exact lo 65536 (lit< tt)) at (nearest_mono (lo *ℤ pos 65536) x 65536 (lit< tt) l);
      high = rw (nearest_exact hi 65536 (lit< tt)) at (nearest_mono x (hi *ℤ pos 65536) 65536 (lit< tt) h);
    }

-- a share of d that is at most the whole, k / F with k ≤ F, passes no bound that d keeps
pub share_high : (d a : ℤ) {k : ℕ} → d ≤ℤ a → pos 0 ≤ℤ a → k ≤ F → rounded (d *ℤ pos k) ≤ℤ a
unfolding rounded
share_high d a h g e = nearest-share-high d a 65536 (lit< tt) h g e

pub share_low : (d a : ℤ) {k : ℕ} → neg_ℤ a ≤ℤ d → pos 0 ≤ℤ a → k ≤ F → neg_ℤ a ≤ℤ rounded (d *ℤ pos k)
unfolding rounded
share_low d a h g e = nearest-share-low d a 65536 (lit< tt) h g e

-- ---- the machine's form

-- the shift by 63 is 0 or, below zero, -1
record SignBit (x s : ℤ) : Type 0 where
  low : negsuc 0 ≤ℤ s
  high : s ≤ℤ pos 0
  up : pos 0 ≤ℤ x → pos 0 ≤ℤ s
  down : x <ℤ pos 0 → s ≤ℤ negsuc 0

sign_bit : (x : ℤ) → Within product x → SignBit x (shr_z x 9223372036854775808)
sign_bit (pos a) h =
    let e = div-eq_of_lt {n = a} {m = 9223372036854775808} (omega arith) in
    record { low = omega (arith, zs); high = omega (arith, zs); up = λ _. omega (arith, zs); down = λ d. absurd (omega (arith, zs)) }
sign_bit (negsuc a) h =
    let e = div-eq_of_lt {n = a} {m = 9223372036854775808} (omega arith) in
    record { low = omega (arith, zs); high = omega (arith, zs); up = λ d. absurd (omega (arith, zs)); down = λ _. omega (arith, zs) }

-- and the shift by 16 rounds down
floored : (x s : ℤ) → SignBit x s → shr_z (x +ℤ pos 32768 +ℤ s) 65536 ≡ rounded x
unfolding rounded
floored x s b =
    let z = x +ℤ pos 32768 +ℤ s in
    let r = shr_z z 65536 in
    let l = floor_low z 65536 (lit< tt) in
    let g = floor_high z 65536 (lit< tt) in
    let low = b.low in
    let high = b.high in
    let X = at x in
    let S = at s in
    let R = at r in
    let Z : Lin (x +ℤ pos 32768 +ℤ s) = search lins in
    let R1 : Lin (r *ℤ pos 65536) = search lins in
    let R2 : Lin (r *ℤ pos 65536 +ℤ pos 65536) = search lins in
    let D : Lin ((r *ℤ pos 65536 -ℤ x) *ℤ pos 2) = search lins in
    let U : Lin (r *ℤ pos 65536 *ℤ pos 2 +ℤ pos 65536) = search lins in
    let U2 : Lin (r *ℤ pos 65536 *ℤ pos 2) = search lins in
    let X2 : Lin (x *ℤ pos 2) = search lins in
    let X3 : Lin (x *ℤ pos 2 +ℤ pos 65536) = search lins in
    sym
    (nearest_only x 65536 r (lit< tt)
    (record {
      near = omega (arith, zs);
      up = λ e. let f = b.up e in omega (arith, zs);
      down = λ e. let f = b.down e in omega (arith, zs);
    }))

pub shifted : (x : ℤ) → Within product x → shr_z (x +ℤ pos 32768 +ℤ shr_z x 9223372036854775808) 65536 ≡ rounded x
shifted x h = floored x (shr_z x 9223372036854775808) (sign_bit x h)

-- ---- for the machine's values

up_to : (t : ℕ) → t ≤ ((t + 65535) / 65536) * 65536
up_to t = omega (arith, div-add-mod' (t + 65535) 65536, mod-lt (t + 65535) {m = 65536} (lit< tt))

pub rounded_small : {x : ℤ} (a : Num x) → T a.ok → size (rounded a.val) ≤ (a.top + 65535) / 65536
rounded_small a t =
    let s = a.small t in
    let n = (a.top + 65535) / 65536 in
    let h : Within (n * 65536) a.val = record { within = omega (arith, up_to a.top) } in
    (rounded_within a.val n h).within

abbrev pub num_rounded : {x : ℤ} → Num x → Num (rounded x)
num_rounded {x} a = record {
  val = rounded a.val;
  top = (a.top + 65535) / 65536;
  ok = a.ok;
  is = λ t. ap rounded (a.is t);
  small = rounded_small a;
}
