-- 01, "Units": how large the numbers of a sample get, and rounding.
use Rattle.std.specs.Prelude.{ℕ, ℤ}
use Rattle.whole.specs.Rounding.{nearest}
use Rattle.record.specs.Units.{F}

-- "Largest P, D and g: 8,388,608,000,000 each, so every product stays below 2,800,000,000,000,000,000."
abbrev pub part : ℕ
part = 8388608000000

-- the most of U - v, with U within lo × F..hi × F and v = P + I + g + D
abbrev pub excess_most : ℕ
excess_most = 42074112000000

abbrev pub product : ℕ
product = 2800000000000000000

-- "Halves shall go away from zero, everywhere that 01 rounds" (02, request 3): round(x / F) is x / F to the nearest, so that
-- fine 32,768 gives 1 and -32,768 gives -1
unfoldable pub rounded : ℤ → ℤ
rounded x = nearest x F
