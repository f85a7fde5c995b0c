-- The commands: "same command with same values".
use Rattle.std.specs.Prelude.{ℕ, Bool, ◌&&◌, eqb, ℤ, pos}
use Rattle.whole.specs.Numbers.{eq_z}
use Rattle.command.specs.declared.Command.{Command}
use Rattle.command.specs.declared.Command.TheVariants.{Sample, Hold, Put, Automatic, Target, Set}

-- which command it is
abbrev pub kind_of : Command → ℕ
kind_of (Sample pv) = 0
kind_of Hold = 1
kind_of (Put x) = 2
kind_of Automatic = 3
kind_of (Target t r) = 4
kind_of (Set k) = 5

-- its value, 0 where it has none
abbrev pub value_of : Command → ℤ
value_of (Sample pv) = pv
value_of Hold = pos 0
value_of (Put x) = x
value_of Automatic = pos 0
value_of (Target t r) = t
value_of (Set k) = k

-- its second value, 0 where it has none
abbrev pub second_of : Command → ℤ
second_of (Sample pv) = pos 0
second_of Hold = pos 0
second_of (Put x) = pos 0
second_of Automatic = pos 0
second_of (Target t r) = r
second_of (Set k) = pos 0

abbrev pub same : Command → Command → Bool
same a b = eqb (kind_of a) (kind_of b) && eq_z (value_of a) (value_of b) && eq_z (second_of a) (second_of b)
