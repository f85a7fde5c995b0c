-- The means of samples in range.
use mathlib.Core.Path.{◌≡◌, refl}
use mathlib.Core.Bool.{true}
use mathlib.Core.List.{List, [], ◌∷◌}
use Prim.Native.Nat.{ℕ}
use lib.IntN.{ℤ}
use Rattle.whole.proofs.Truth.{and}
use Rattle.command.specs.Sequence.{each}
use Rattle.temperature.specs.Temperature.{ranged}
use Rattle.temperature.proofs.Ranged.{ranged_first}
use Rattle.window.specs.declared.Window.{Window}
use Rattle.window.specs.Window.{taken, window_ok}
use Rattle.window.specs.Means.{means_of}
use Rattle.window.proofs.Rules.{taken_ok, mean_in}

-- they lie in range
pub means_ranged : (m : ℕ) (w : Window) (pvs : List ℤ) → window_ok w ≡ true → ranged pvs ≡ true → ranged (means_of m w pvs) ≡ true
unfolding each
means_ranged m w [] v g = refl
means_ranged m w (pv ∷ pvs) v g =
    let h = ranged_first pv pvs g in
    and (mean_in m w pv v h.0) (means_ranged m (taken w pv) pvs (taken_ok w pv v h.0) h.1)
