-- 02, request 7, of the window alone. By their contracts `taken` answers `taken w pv`, `mean` the mean of `latest m w`, `means`
-- the means after each of a list of samples, and `after` the window after all of them.
use Prim.Native.Nat.{ℕ, ◌≤◌, min}
use mathlib.Core.Path.{◌≡◌, refl}
use mathlib.Core.Bool.{true, false}
use mathlib.Core.List.{List, [], ◌∷◌, ◌++◌}
use lib.IntN.{ℤ, pos, negsuc}
use lib.ListN.{length, take, replicate}
use Rattle.whole.specs.Numbers.{Within}
use Rattle.settings.specs.Table.{window, in_reach}
use Rattle.command.specs.Sequence.{each}
use Rattle.window.specs.declared.Window.{Window}
use Rattle.window.specs.Window.{fresh_window, taken, window_ok, latest, sum_of, mean_at}
use Rattle.window.specs.Means.{means_of}
use Rattle.window.specs.Running.{means_at}
use Rattle.window.specs.Bounds.{sum_reach}
use Rattle.window.proofs.Rules.{fresh_ok, taken_ok, mean_in, latest_each}
use Rattle.window.proofs.Sums.{sum_reach_lem}
use Rattle.window.proofs.Taken.{counted, means_at_lem}
use Rattle.window.proofs.Runs.{mean_one}

-- ---- the state rules

-- "m and the window's temperatures lie in range, at most 128 are seen, unfilled places are zero": a fresh window keeps them, and
-- one that takes a temperature in range
pub fresh_keeps : window_ok fresh_window ≡ true
fresh_keeps = fresh_ok

pub taken_keeps : (w : Window) (pv : ℤ) → window_ok w ≡ true → in_reach pv ≡ true → window_ok (taken w pv) ≡ true
taken_keeps = taken_ok

-- ---- the mean

-- what the law reads lies within ±1,000,000, and the sum that it is taken of within ±128,000,000
pub mean_within : (m : ℕ) (w : Window) (pv : ℤ) → window_ok w ≡ true → in_reach pv ≡ true → in_reach (mean_at m w pv) ≡ true
mean_within = mean_in

pub sum_fits : (m : ℕ) (w : Window) → window_ok w ≡ true → length (latest m w) ≤ window → Within sum_reach (sum_of (take (length (latest m w)) (latest m w)))
sum_fits m w e h = sum_reach_lem (length (latest m w)) (latest m w) h (latest_each m w e)

-- a mean over the last one is the temperature itself
pub one_is_itself : (w : Window) (pv : ℤ) → mean_at 1 w pv ≡ pv
one_is_itself = mean_one

-- "The running sum": over every temperature there was, of which the window has the newest, the last n are summed, and after each
-- sample one more, up to m or 128. It gives the means that the windows give, one after the other.
pub running_sum : (m : ℕ) (w : Window) (before samples : List ℤ) → take window before ≡ w.places → window ≤ length before →
    means_of m w samples ≡ means_at (min m window) (counted m w) before samples
running_sum = means_at_lem

-- ---- numbers

abbrev holding : List ℤ → ℕ → Window
holding temperatures seen = record { places = take window (temperatures ++ replicate window (pos 0)); seen = seen }

-- "480, 481 gives 481; -480, -481 gives -481": halves go away from zero. Until m are seen, the mean is over those seen, and no
-- filler counts
pub halves :
    (means_of 2 fresh_window (pos 480 ∷ pos 481 ∷ []) ≡ pos 480 ∷ pos 481 ∷ [])
    × (means_of 2 fresh_window (negsuc 479 ∷ negsuc 480 ∷ []) ≡ negsuc 479 ∷ negsuc 480 ∷ [])
    × (means_of 128 fresh_window (pos 480 ∷ pos 480 ∷ pos 474 ∷ []) ≡ pos 480 ∷ pos 480 ∷ pos 478 ∷ [])
unfolding each fresh_window taken mean_at
halves = (refl, refl, refl)

-- a place that is not filled, 129 seen, and a temperature out of range break the rules
pub broken :
    (window_ok (holding (pos 480 ∷ []) 1) ≡ true)
    × (window_ok (holding (pos 480 ∷ []) 0) ≡ false)
    × (window_ok (holding [] 128) ≡ true)
    × (window_ok (holding [] 129) ≡ false)
    × (window_ok (holding (negsuc 999999 ∷ []) 1) ≡ true)
    × (window_ok (holding (negsuc 1000000 ∷ []) 1) ≡ false)
unfolding window_ok
broken = (refl, refl, refl, refl, refl, refl)
