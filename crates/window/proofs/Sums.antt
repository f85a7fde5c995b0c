-- Laws of sums and means of numbers that lie between two bounds.
use Prim.Native.Nat.{ℕ, zero, suc, ◌<◌, ◌≤◌}
use mathlib.Core.Path.{◌≡◌, refl, sym, ap, subst, ◌∙◌}
use mathlib.Core.List.{List, [], ◌∷◌}
use native.Mathlib.Omega.{arith}
use lib.Dec.{lit<}
use lib.IntN.{ℤ, pos, negsuc, neg_ℤ, ◌+ℤ◌, ◌*ℤ◌, +ℤ_assoc}
use lib.ListN.{length, get_or, take}
use lib.Seq.{take-length}
use lib.Signed.{◌≤ℤ◌, ◌<ℤ◌}
use mir.Syntax.{w32}
use mir.Val.{SFits}
use Rattle.whole.specs.Numbers.{size, Within}
use Rattle.whole.specs.Rounding.{half_up, nearest}
use Rattle.whole.proofs.Parts.{zs, Between}
use Rattle.whole.proofs.Lin.{Lin, at, lins}
use Rattle.whole.proofs.Nearest.{nearest_mono, nearest_exact}
use Rattle.settings.specs.Table.{reach, window}
use Rattle.window.specs.Window.{sum_of, mean_of}
use Rattle.window.specs.Bounds.{Bits, sum_most, MeanOk, sum_reach}

-- each element, and the 0 past the end, lies in lo..hi
abbrev pub Each : ℤ → ℤ → List ℤ → Type 0
Each lo hi xs = (i : ℕ) → Between lo hi (get_or xs i (pos 0))

-- one number more
pub sum_next : (n : ℕ) (xs : List ℤ) → sum_of (take (suc n) xs) ≡ sum_of (take n xs) +ℤ get_or xs n (pos 0)
sum_next zero [] = refl
sum_next zero (x ∷ xs) = plain x
  where
    plain : (x : ℤ) → x +ℤ pos 0 ≡ pos 0 +ℤ x
    plain x =
        let X = at x in
        let L : Lin (x +ℤ pos 0) = search lins in
        let R : Lin (pos 0 +ℤ x) = search lins in
        omega (arith, zs)
sum_next (suc n) [] = refl
sum_next (suc n) (x ∷ xs) = ap (λ (z : ℤ). x +ℤ z) (sum_next n xs) ∙ sym (+ℤ_assoc x (sum_of (take n xs)) (get_or xs n (pos 0)))

-- the sum of n numbers lies between n times their bounds
pub sum_between : (lo hi : ℤ) (n : ℕ) (xs : List ℤ) → Each lo hi xs → Between (lo *ℤ pos n) (hi *ℤ pos n) (sum_of (take n xs))
sum_between lo hi zero xs e =
    let A = at lo in
    let B = at hi in
    let L : Lin (lo *ℤ pos 0) = search lins in
    let H : Lin (hi *ℤ pos 0) = search lins in
    record { low = omega (arith, zs); high = omega (arith, zs) }
sum_between lo hi (suc n) xs e =
    let A = at lo in
    let B = at hi in
    let S = at (sum_of (take n xs)) in
    let X = at (get_or xs n (pos 0)) in
    let b = sum_between lo hi n xs e in
    let x = e n in
    let l = b.low in
    let h = b.high in
    let xl = x.low in
    let xh = x.high in
    let L : Lin (lo *ℤ pos n) = search lins in
    let H : Lin (hi *ℤ pos n) = search lins in
    let L' : Lin (lo *ℤ pos (suc n)) = search lins in
    let H' : Lin (hi *ℤ pos (suc n)) = search lins in
    let T : Lin (sum_of (take n xs) +ℤ get_or xs n (pos 0)) = search lins in
    rw (sum_next n xs) (record { low = omega (arith, zs); high = omega (arith, zs) })

-- a number divided by n > 0 that lies between n times two bounds
pub nearest_between : (lo hi x : ℤ) (n : ℕ) → 0 < n → Between (lo *ℤ pos n) (hi *ℤ pos n) x → Between lo hi (nearest x n)
nearest_between lo hi x n h b = record {
  low = rw (nearest_exact lo n h) at (nearest_mono (lo *ℤ pos n) x n h b.low);
  high = rw (nearest_exact hi n h) at (nearest_mono x (hi *ℤ pos n) n h b.high);
}

-- the size is divided, and the sign put back
pub nearest_up : (x : ℤ) (n : ℕ) → pos 0 ≤ℤ x → pos (half_up (size x) n) ≡ nearest x n
nearest_up (pos a) n h = ap (λ (k : ℕ). pos (half_up k n)) (omega arith)
nearest_up (negsuc a) n h = absurd h.le

pub nearest_down : (x : ℤ) (n : ℕ) → x <ℤ pos 0 → neg_ℤ (pos (half_up (size x) n)) ≡ nearest x n
nearest_down (pos a) n h = absurd (omega (arith, zs))
nearest_down (negsuc a) n h = ap (λ (k : ℕ). neg_ℤ (pos (half_up k n))) (omega arith)

-- a mean lies between the bounds of what it is of
pub mean_between : (lo hi : ℤ) (xs : List ℤ) → Each lo hi xs → Between lo hi (mean_of xs)
mean_between lo hi [] e = e 0
mean_between lo hi (x ∷ xs) e =
    let n = suc (length xs) in
    nearest_between lo hi (sum_of (x ∷ xs)) n (omega arith)
    (subst (λ (ys : List ℤ). Between (lo *ℤ pos n) (hi *ℤ pos n) (sum_of ys)) (take-length (x ∷ xs)) (sum_between lo hi n (x ∷ xs) e))

-- a number of 32 bits
pub bits_between : (z : ℤ) → SFits w32 z → Between (negsuc 2147483647) (pos 2147483647) z
bits_between (pos n) f = let h = f.sfits in record { low = omega (arith, zs); high = omega (arith, zs) }
bits_between (negsuc n) f = let h = f.sfits in record { low = omega (arith, zs); high = omega (arith, zs) }

pub between_bits : (z : ℤ) → Between (negsuc 2147483647) (pos 2147483647) z → SFits w32 z
between_bits (pos n) b = let h = b.high in record { sfits = omega (arith, zs) }
between_bits (negsuc n) b = let h = b.low in record { sfits = omega (arith, zs) }

pub bits_take : (n : ℕ) (xs : List ℤ) → Bits xs → Bits (take n xs)
bits_take zero xs e i = record { sfits = lit< tt }
bits_take (suc n) [] e i = e i
bits_take (suc n) (x ∷ xs) e zero = e 0
bits_take (suc n) (x ∷ xs) e (suc i) = bits_take n xs (λ j. e (suc j)) i

-- the sum of numbers of 32 bits, so many as the window has places
pub mean_ok : (n : ℕ) (xs : List ℤ) → n ≤ window → Bits xs → MeanOk (sum_of (take n xs)) n
mean_ok n xs h e =
    let b = sum_between (negsuc 2147483647) (pos 2147483647) n xs (λ i. bits_between _ (e i)) in
    record { few = h; low = b.low; high = b.high }

pub mean_bits : (sum : ℤ) (n : ℕ) → 0 < n → MeanOk sum n → Between (negsuc 2147483647) (pos 2147483647) (nearest sum n)
mean_bits sum n h k = nearest_between (negsuc 2147483647) (pos 2147483647) sum n h (record { low = k.low; high = k.high })

-- and the mean's size
pub mean_small : (sum : ℤ) (n : ℕ) → Between (negsuc 2147483647) (pos 2147483647) (nearest sum n) → half_up (size sum) n ≤ 2147483648
mean_small (pos a) n b =
    let h = b.high in
    let e : size (pos a) ≡ a = omega arith in
    rw e (omega (arith, zs))
mean_small (negsuc a) n b =
    let l = b.low in
    let e : size (negsuc a) ≡ suc a = omega arith in
    let N : Lin (neg_ℤ (pos (half_up (suc a) n))) = search lins in
    rw e (omega (arith, zs))

pub sum_within : {sum : ℤ} {n : ℕ} → MeanOk sum n → Within sum_most sum
sum_within {sum} {n} k =
    let S = at sum in
    let f = k.few in
    let l = k.low in
    let h = k.high in
    let L : Lin (negsuc 2147483647 *ℤ pos n) = search lins in
    let H : Lin (pos 2147483647 *ℤ pos n) = search lins in
    omega (arith, zs)

-- the sum of temperatures in range, so many as the window has places
pub sum_reach_lem : (n : ℕ) (xs : List ℤ) → n ≤ window → Each (negsuc 999999) (pos reach) xs → Within sum_reach (sum_of (take n xs))
sum_reach_lem n xs h e =
    let s = sum_of (take n xs) in
    let S = at s in
    let b = sum_between (negsuc 999999) (pos reach) n xs e in
    let l = b.low in
    let u = b.high in
    let L : Lin (negsuc 999999 *ℤ pos n) = search lins in
    let H : Lin (pos reach *ℤ pos n) = search lins in
    omega (arith, zs)
