-- Mirrored windows: their rules, what they take, and their means.
use Prim.Native.Nat.{ℕ, zero, suc}
use mathlib.Core.Path.{◌≡◌, refl, ap, ap₂, ◌∙◌}
use mathlib.Core.List.{List, [], ◌∷◌, map}
use native.Mathlib.Omega.{arith}
use lib.IntN.{ℤ, pos, neg_ℤ, neg_ℤ-neg_ℤ, neg_ℤ-+ℤ}
use lib.ListN.{length, take, length-map}
use Rattle.whole.specs.Rounding.{nearest}
use Rattle.whole.proofs.Nearest.{nearest_neg}
use Rattle.whole.proofs.Negated.{eq_z_neg}
use Rattle.whole.proofs.Lists.{map_take, map_twice}
use Rattle.settings.specs.Table.{reach, window}
use Rattle.window.specs.declared.Window.{Window}
use Rattle.window.specs.Window.{places_ok, window_ok, taken, latest, sum_of, mean_of, mean_at}
use Rattle.mirror.specs.Mirror.{Mirror, of_action, of_temperatures, flip_temperature, flip_window}
use Rattle.mirror.proofs.Settings.{range_neg}

pub window_twice : (k : Mirror) (w : Window) → flip_window k (flip_window k w) ≡ w
window_twice of_action w = refl
window_twice of_temperatures w = ap (λ (xs : List ℤ). record { places = xs; seen = w.seen }) (map_twice neg_ℤ neg_ℤ-neg_ℤ w.places)

-- ---- the rules

places_neg : (n : ℕ) (xs : List ℤ) → places_ok n (map neg_ℤ xs) ≡ places_ok n xs
places_neg n [] = refl
places_neg zero (x ∷ xs) = rw (eq_z_neg x (pos 0), places_neg zero xs)
places_neg (suc n) (x ∷ xs) = rw (range_neg reach x, places_neg n xs)

pub window_mirror : (k : Mirror) (w : Window) → window_ok (flip_window k w) ≡ window_ok w
unfolding window_ok
window_mirror of_action w = refl
window_mirror of_temperatures w = rw (places_neg w.seen w.places)

-- ---- a sample

pub taken_mirror : (k : Mirror) (w : Window) (pv : ℤ) → taken (flip_window k w) (flip_temperature k pv) ≡ flip_window k (taken w pv)
unfolding taken
taken_mirror of_action w pv = refl
taken_mirror of_temperatures w pv = rw (map_take neg_ℤ window (pv ∷ w.places))

sum_neg : (xs : List ℤ) → sum_of (map neg_ℤ xs) ≡ neg_ℤ (sum_of xs)
sum_neg [] = refl
sum_neg (x ∷ xs) = rw (sum_neg xs, neg_ℤ-+ℤ x (sum_of xs))

mean_neg : (xs : List ℤ) → mean_of (map neg_ℤ xs) ≡ neg_ℤ (mean_of xs)
mean_neg [] = refl
mean_neg (x ∷ xs) =
    ap₂ nearest (sum_neg (x ∷ xs)) (length-map (x ∷ xs) neg_ℤ) ∙ nearest_neg (sum_of (x ∷ xs)) (suc (length xs)) (omega arith)

pub mean_mirror : (k : Mirror) (m : ℕ) (w : Window) (pv : ℤ) → mean_at m (flip_window k w) (flip_temperature k pv) ≡ flip_temperature k (mean_at m w pv)
unfolding mean_at
mean_mirror of_action m w pv = refl
mean_mirror of_temperatures m w pv =
    let v = taken w pv in
    ap (λ (x : Window). mean_of (latest m x)) (taken_mirror of_temperatures w pv)
    ∙ ap mean_of (ap (take m) (map_take neg_ℤ v.seen v.places) ∙ map_take neg_ℤ m (take v.seen v.places))
    ∙ mean_neg (latest m v)
