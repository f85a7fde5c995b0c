-- `same` is equality: "same command with same values".
use Prim.Native.Nat.{ℕ, zero, suc}
use mathlib.Core.Path.{◌≡◌, refl}
use mathlib.Core.Bool.{true, ◌&&◌}
use borrow.Author.Tests.{eqb-true, eq-eqb}
use lib.Dec.{eqb}
use lib.IntN.{ℤ}
use Rattle.whole.specs.Numbers.{eq_z}
use Rattle.whole.proofs.Truth.{both, and}
use Rattle.whole.proofs.Parts.{yes_eq_z, eq_z_yes}
use Rattle.command.specs.declared.Command.{Command}
use Rattle.command.specs.declared.Command.TheVariants.{Sample, Hold, Put, Automatic, Target, Set}
use Rattle.command.specs.Command.{kind_of, value_of, second_of, same}

-- the command of a kind with its two values
command_of : ℕ → ℤ → ℤ → Command
command_of zero x y = Sample x
command_of (suc zero) x y = Hold
command_of (suc (suc zero)) x y = Put x
command_of (suc (suc (suc zero))) x y = Automatic
command_of (suc (suc (suc (suc zero)))) x y = Target x y
command_of (suc (suc (suc (suc (suc n))))) x y = Set x

back : (c : Command) → command_of (kind_of c) (value_of c) (second_of c) ≡ c
unfolding command_of
back (Sample pv) = refl
back Hold = refl
back (Put x) = refl
back Automatic = refl
back (Target t r) = refl
back (Set k) = refl

pub same_equal : (a b : Command) → same a b ≡ true → a ≡ b
same_equal a b e =
    let s = both (eqb (kind_of a) (kind_of b) && eq_z (value_of a) (value_of b)) (eq_z (second_of a) (second_of b)) e in
    let f = both (eqb (kind_of a) (kind_of b)) (eq_z (value_of a) (value_of b)) s.0 in
    cc (
      back a,
      back b,
      eqb-true (kind_of a) (kind_of b) f.0,
      eq_z_yes (value_of a) (value_of b) f.1,
      eq_z_yes (second_of a) (second_of b) s.1,
    )

pub same_self : (a : Command) → same a a ≡ true
same_self a =
    and (and (eq-eqb (kind_of a) (kind_of a) refl) (yes_eq_z (value_of a) (value_of a) refl)) (yes_eq_z (second_of a) (second_of a) refl)
