-- 02, request 7: the window ahead of the filter, its state rules, and the mean of the last temperatures in it.
use Rattle.std.specs.Prelude.{ℕ, zero, suc, ◌+◌, min, Bool, true, false, cond, ◌&&◌, List, [], ◌∷◌, leb, ℤ, pos, ◌+ℤ◌, length, take, replicate}
use Rattle.whole.specs.Numbers.{eq_z}
use Rattle.whole.specs.Rounding.{nearest}
use Rattle.settings.specs.Table.{window, in_reach}
use Rattle.window.specs.declared.Window.{Window}

-- ---- the window

-- "kept in a window of 128 places that starts filled with zeros"
unfoldable pub fresh_window : Window
fresh_window = record { places = replicate window (pos 0); seen = 0 }

-- "The window takes every kept sample", "newest first": it stands before all others, of which the oldest leaves; "at most 128
-- are seen"
unfoldable pub taken : Window → ℤ → Window
taken w pv = record { places = take window (pv ∷ w.places); seen = min window (w.seen + 1) }

-- ---- the state rules: "the window's temperatures lie in range, at most 128 are seen, unfilled places are zero"

abbrev pub place_ok : Bool → ℤ → Bool
place_ok filled x = cond filled (in_reach x) (eq_z x (pos 0))

-- the first n places are filled
abbrev pub places_ok : ℕ → List ℤ → Bool
places_ok n [] = true
places_ok zero (x ∷ xs) = place_ok false x && places_ok zero xs
places_ok (suc n) (x ∷ xs) = place_ok true x && places_ok n xs

unfoldable pub window_ok : Window → Bool
window_ok w = leb w.seen window && places_ok w.seen w.places

-- ---- the mean

-- "the last m temperatures"; "until m are seen", those seen
abbrev pub latest : ℕ → Window → List ℤ
latest m w = take m (take w.seen w.places)

-- "The sum is exact"
abbrev pub sum_of : List ℤ → ℤ
sum_of [] = pos 0
sum_of (x ∷ xs) = x +ℤ sum_of xs

-- "the mean rounded as in request 3"
abbrev pub mean_of : List ℤ → ℤ
mean_of xs = nearest (sum_of xs) (length xs)

-- what the law reads at a sample: the window takes it, and then the mean is taken
unfoldable pub mean_at : ℕ → Window → ℤ → ℤ
mean_at m w pv = mean_of (latest m (taken w pv))
