-- Samples within ±1,000,000: each is a number of 32 bits.
use Prim.Native.Nat.{zero, suc}
use mathlib.Core.Path.{◌≡◌, refl}
use mathlib.Core.Bool.{true}
use mathlib.Core.List.{List, [], ◌∷◌}
use native.Mathlib.Omega.{arith}
use lib.IntN.{ℤ, pos, negsuc}
use lib.ListN.{get_or}
use Rattle.whole.proofs.Parts.{zs, inside_yes}
use Rattle.whole.proofs.Lin.{at}
use Rattle.settings.specs.Table.{reach}
use Rattle.temperature.specs.Temperature.{ranged}
use Rattle.temperature.proofs.Ranged.{ranged_first}
use Rattle.window.specs.Bounds.{Bits}
use Rattle.window.proofs.Sums.{Each, between_bits}

pub ranged_each : (pvs : List ℤ) → ranged pvs ≡ true → Each (negsuc 999999) (pos reach) pvs
ranged_each [] e i = inside_yes (negsuc 999999) (pos reach) (pos 0) refl
ranged_each (pv ∷ pvs) e zero = inside_yes (negsuc 999999) (pos reach) pv (ranged_first pv pvs e).0
ranged_each (pv ∷ pvs) e (suc i) = ranged_each pvs (ranged_first pv pvs e).1 i

pub ranged_bits : (pvs : List ℤ) → ranged pvs ≡ true → Bits pvs
ranged_bits pvs e i =
    let z = get_or pvs i (pos 0) in
    let Z = at z in
    let b = ranged_each pvs e i in
    let l = b.low in
    let h = b.high in
    between_bits z (record { low = omega (arith, zs); high = omega (arith, zs) })
