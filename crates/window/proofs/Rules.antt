-- The state rules of the window: place by place, what they say of its temperatures, and that they hold again.
use Prim.Native.Nat.{ℕ, zero, suc, ◌+◌, ◌-◌, ◌<◌, min}
use mathlib.Core.Path.{◌≡◌, refl, sym, subst}
use mathlib.Core.Bool.{true, ◌&&◌}
use mathlib.Core.List.{List, [], ◌∷◌}
use native.Mathlib.Omega.{arith}
use borrow.Author.Tests.{ltb-true, ltb-false, le-leb}
use lib.Dec.{ltb, leb}
use lib.IntN.{ℤ, pos, negsuc}
use lib.ListN.{length, get_or, take, drop, get_or-eq_default}
use Rattle.whole.specs.Numbers.{eq_z}
use Rattle.whole.proofs.Truth.{both, and, by_test}
use Rattle.whole.proofs.Lists.{next}
use Rattle.whole.proofs.Parts.{Between, inside_yes, yes_inside, eq_z_yes}
use Rattle.settings.specs.Table.{reach, window, in_reach}
use Rattle.window.specs.declared.Window.{Window}
use Rattle.window.specs.Window.{fresh_window, taken, place_ok, places_ok, window_ok, latest, mean_at}
use Rattle.window.proofs.Sums.{Each, mean_between}

-- ---- place by place

-- the place at i, and those after it
pub places_next : (n i : ℕ) (xs : List ℤ) → i < length xs →
    places_ok (n - i) (drop i xs) ≡ (place_ok (ltb i n) (get_or xs i (pos 0)) && places_ok (n - (i + 1)) (drop (i + 1) xs))
places_next n i xs h =
    by_test (ltb i n)
    (λ e. let l = ltb-true i n e in
    let m : n - i ≡ suc (n - (i + 1)) = omega arith in
    rw (next xs i (pos 0) h, m, e))
    (λ e. let l = ltb-false i n e in
    let m : n - i ≡ 0 = omega arith in
    let k : n - (i + 1) ≡ 0 = omega arith in
    rw (next xs i (pos 0) h, m, k, e))

-- ---- what they say

zero_reach : Between (negsuc 999999) (pos reach) (pos 0)
zero_reach = inside_yes (negsuc 999999) (pos reach) (pos 0) refl

-- each temperature lies in range, filler and all
pub places_each : (n : ℕ) (xs : List ℤ) → places_ok n xs ≡ true → Each (negsuc 999999) (pos reach) xs
places_each n [] e i = zero_reach
places_each zero (x ∷ xs) e zero =
    subst (Between (negsuc 999999) (pos reach)) (sym (eq_z_yes x (pos 0) (both (eq_z x (pos 0)) (places_ok zero xs) e).0)) zero_reach
places_each zero (x ∷ xs) e (suc i) = places_each zero xs (both (eq_z x (pos 0)) (places_ok zero xs) e).1 i
places_each (suc n) (x ∷ xs) e zero = inside_yes (negsuc 999999) (pos reach) x (both (in_reach x) (places_ok n xs) e).0
places_each (suc n) (x ∷ xs) e (suc i) = places_each n xs (both (in_reach x) (places_ok n xs) e).1 i

each_take : (lo hi : ℤ) (n : ℕ) (xs : List ℤ) → Each lo hi xs → Each lo hi (take n xs)
each_take lo hi zero xs e i = subst (Between lo hi) (get_or-eq_default xs (pos 0) (omega arith)) (e (length xs))
each_take lo hi (suc n) [] e i = e i
each_take lo hi (suc n) (x ∷ xs) e zero = e 0
each_take lo hi (suc n) (x ∷ xs) e (suc i) = each_take lo hi n xs (λ j. e (suc j)) i

-- ---- that they hold at first, and again

pub fresh_ok : window_ok fresh_window ≡ true
unfolding window_ok fresh_window
fresh_ok = refl

-- fewer places
places_front : (n k : ℕ) (xs : List ℤ) → places_ok n xs ≡ true → places_ok (min k n) (take k xs) ≡ true
places_front n zero xs e = refl
places_front n (suc k) [] e = refl
places_front zero (suc k) (x ∷ xs) e =
    let b = both (eq_z x (pos 0)) (places_ok zero xs) e in
    let m : min (suc k) 0 ≡ 0 = omega arith in
    let r : min k 0 ≡ 0 = omega arith in
    rw m (and b.0 (rw r at (places_front zero k xs b.1)))
places_front (suc n) (suc k) (x ∷ xs) e =
    let b = both (in_reach x) (places_ok n xs) e in
    let m : min (suc k) (suc n) ≡ suc (min k n) = omega arith in
    rw m (and b.0 (places_front n k xs b.1))

pub taken_ok : (w : Window) (pv : ℤ) → window_ok w ≡ true → in_reach pv ≡ true → window_ok (taken w pv) ≡ true
unfolding window_ok taken
taken_ok w pv e p =
    let b = both (leb w.seen window) (places_ok w.seen w.places) e in
    let m : min window (w.seen + 1) ≡ suc (min (window - 1) w.seen) = omega arith in
    rw m (and (le-leb (suc (min (window - 1) w.seen)) window (omega arith)) (and p (places_front w.seen (window - 1) w.places b.1)))

-- those that a mean goes over lie in range
pub latest_each : (m : ℕ) (w : Window) → window_ok w ≡ true → Each (negsuc 999999) (pos reach) (latest m w)
unfolding window_ok
latest_each m w e =
    let b = both (leb w.seen window) (places_ok w.seen w.places) e in
    each_take _ _ m _ (each_take _ _ w.seen _ (places_each w.seen w.places b.1))

-- and so does their mean
pub mean_in : (m : ℕ) (w : Window) (pv : ℤ) → window_ok w ≡ true → in_reach pv ≡ true → in_reach (mean_at m w pv) ≡ true
unfolding mean_at
mean_in m w pv e p =
    yes_inside (negsuc 999999) (pos reach) (mean_at m w pv)
    (mean_between (negsuc 999999) (pos reach) (latest m (taken w pv)) (latest_each m (taken w pv) (taken_ok w pv e p)))
