-- "no value being the least of its type": the mirror image of a command is one that the machine can hold.
use mathlib.Core.Path.{◌≡◌}
use native.Mathlib.Omega.{arith}
use lib.IntN.{ℤ, neg_ℤ}
use mir.Syntax.{w32}
use mir.Val.{SFits}
use Rattle.whole.proofs.Parts.{zs}
use Rattle.whole.proofs.Lin.{at, lin_neg}
use Rattle.whole.proofs.Bits.{fits_neg}
use Rattle.command.specs.declared.Command.{Command}
use Rattle.command.specs.declared.Command.TheVariants.{Sample, Hold, Put, Automatic, Target, Set}
use Rattle.mirror.specs.Mirror.{Mirror, of_action, of_temperatures, flip_temperature, flip_command, Held, least_value, Opposed}

-- the least of its type is not its own opposite
pub least_turned : (z : ℤ) → (z ≡ least_value → neg_ℤ z ≡ z) → z ≡ least_value → ⊥
least_turned z left e =
    let q = left e in
    let Z = at z in
    let N = lin_neg (at z) in
    omega (arith, zs)

opposite : (z : ℤ) → (z ≡ least_value → neg_ℤ z ≡ z) → SFits w32 z → SFits w32 (neg_ℤ z)
opposite z left f = fits_neg w32 z f (least_turned z left)

temperature_held : (k : Mirror) (z : ℤ) → (z ≡ least_value → flip_temperature k z ≡ z) → SFits w32 z → SFits w32 (flip_temperature k z)
temperature_held of_action z left f = f
temperature_held of_temperatures z left f = opposite z left f

pub held_mirror : (k : Mirror) (c : Command) → Held c → Opposed k c → Held (flip_command k c)
held_mirror k (Sample pv) h o = record { value = temperature_held k pv o.left h.value; second = h.second }
held_mirror k Hold h o = h
held_mirror k (Put x) h o = record { value = opposite x o.left h.value; second = h.second }
held_mirror k Automatic h o = h
held_mirror k (Target t r) h o = record { value = temperature_held k t o.left h.value; second = h.second }
held_mirror k (Set n) h o = h
