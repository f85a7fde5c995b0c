-- What owning a window tells of it: each place fits its type, and there are as many as the request says. `window_fit` takes a
-- parameter's `c.well_formed.0`, or what a call's result `.type_inv` says.
use Prim.Native.Nat.{zero, suc}
use mathlib.Core.Path.{◌≡◌}
use mathlib.Core.List.{List, [], ◌∷◌}
use lib.Dec.{lit<}
use lib.IntN.{ℤ}
use lib.ListN.{length}
use mir.Val.{Val}
use denote.Array.{each}
use denote.Shadow.{shadow}
use denote.Laws.{Is}
use denote.Builtin.{i32}
use denote.Struct.Laws.{val, owed}
use Rattle.settings.specs.Table.{window}
use Rattle.window.specs.declared.Window.{Window}
use Rattle.window.specs.Bounds.{Bits}
use Rattle.window.specs.contracts.Window as W
use Rattle.window.proofs.Window.TheLaws as W'

pub record WindowFit (w : Window) : Type 0 where
  pub places : length w.places ≡ window
  pub bits : Bits w.places

held : (xs : List ℤ) (us : List Val) → shadow (each i32.Denot i32.own_val xs us) → Bits xs
held [] us p i = record { sfits = lit< tt }
held (x ∷ xs) [] p i = absurd p
held (x ∷ xs) (u ∷ us) p zero = record { sfits = p.0.1 }
held (x ∷ xs) (u ∷ us) p (suc i) = held xs us p.1 i

pub window_fit : (w : Window) → Is W.the_row w (val W.the_type W'.the_laws w ∷ []) → WindowFit w
window_fit w is =
    let o = owed W.the_type W'.the_laws w _ is in
    record { places = o.0.1.0.1; bits = held w.places _ o.0.1.1 }
