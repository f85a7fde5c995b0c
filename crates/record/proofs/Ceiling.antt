-- ceiling(d / r): so many times r is enough, no fewer are, and n times r taken off d take n off it.
use Prim.Native.Nat.{ℕ, zero, suc, ◌+◌, ◌*◌, ◌-◌, ◌<◌, ◌≤◌}
use mathlib.Core.Path.{◌≡◌}
use native.Mathlib.Omega.{arith}
use native.Mathlib.Nat.{div-zero, div-add-mod', mod-lt, mul-le-mul_right, mul-le-mul_left, mul-sub, mul_comm}
use borrow.Author.Tests.{ltb-true, ltb-false}
use lib.Dec.{ltb}
use lib.IntN.{ℤ, pos, negsuc, nat_abs}
use Rattle.std.specs.Int.{div_ceil}
use Rattle.std.proofs.lemmas.Grind.{div_ceil_times}
use Rattle.whole.specs.Numbers.{size}
use Rattle.whole.proofs.Truth.{by_test}
use Rattle.record.specs.Remaining.{ceiling}

-- nothing is told of a rate of 0
pub ceiling_none : (d : ℕ) → ceiling d 0 ≡ 0
ceiling_none d = div-zero (d + (0 - 1))

module _ (d r n : ℕ) (h : 1 ≤ r) where
  pub enough : ceiling d r ≤ n → d ≤ n * r
  enough k = omega (arith, div-add-mod' (d + (r - 1)) r, mod-lt (d + (r - 1)) {m = r} (omega arith), mul-le-mul_right r k)

  pub short : n < ceiling d r → n * r < d
  short k =
      let k' : suc n ≤ ceiling d r = omega arith in
      omega (arith, div-add-mod' (d + (r - 1)) r, mul-le-mul_right r k')

pub ceiling_most : (d r : ℕ) → ceiling d r ≤ d
ceiling_most d zero = rw (ceiling_none d) (omega arith)
ceiling_most d (suc r) =
    by_test (ltb d (ceiling d (suc r)))
    (λ t. absurd (omega (arith, short d (suc r) d (omega arith) (ltb-true d (ceiling d (suc r)) t), mul-le-mul_left {m = 1} {n = suc r} d (omega arith))))
    (λ t. ltb-false d (ceiling d (suc r)) t)

-- n samples
pub ceiling_less : (d r n : ℕ) → 1 ≤ r → ceiling (d - n * r) r ≡ ceiling d r - n
ceiling_less d r n h =
    let q = ceiling d r in
    let m = ceiling (d - n * r) r in
    let all = enough d r q h (omega arith) in
    let left = enough (d - n * r) r m h (omega arith) in
    by_test (ltb (q - n) m)
    (λ t. let s = short (d - n * r) r (q - n) h (ltb-true (q - n) m t) in absurd (omega (arith, s, all, mul-sub r q n, mul_comm r (q - n), mul_comm r q, mul_comm r n)))
    (λ t. by_test (ltb m (q - n))
    (λ u. let k = ltb-true m (q - n) u in let s = short d r (m + n) h (omega (arith, k)) in absurd (omega (arith, s, left)))
    (λ u. omega (arith, ltb-false (q - n) m t, ltb-false m (q - n) u)))

-- it is what std's method of that name gives
pub ceiling_is : (d r : ℕ) → 0 < r → div_ceil d r ≡ ceiling d r
ceiling_is d r h =
    let n = div_ceil d r in
    let m = ceiling d r in
    let t = div_ceil_times d r h in
    by_test (ltb n m)
    (λ l. absurd (omega (arith, t.0, short d r n (omega arith) (ltb-true n m l))))
    (λ l. by_test (ltb m n)
    (λ k. absurd (omega (arith, t.1, enough d r m (omega arith) (omega arith), mul-le-mul_right {m = suc m} {n = n} r (omega (arith, ltb-true m n k)))))
    (λ k. omega (arith, ltb-false n m l, ltb-false m n k)))

pub size_is : (z : ℤ) → nat_abs z ≡ size z
size_is (pos n) = omega arith
size_is (negsuc n) = omega arith
