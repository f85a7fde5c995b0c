-- 02, request 12: "how many samples then remain until w is at an unchanged target: distance over rate, rounded upward".
use Rattle.std.specs.Prelude.{ℕ, ◌+◌, ◌-◌, ◌/◌, ◌-ℤ◌}
use Rattle.whole.specs.Numbers.{plus, size}
use Rattle.record.specs.declared.Loop.{Loop}

abbrev pub distance : Loop → ℕ
distance l = size (l.target -ℤ l.w)

-- d / r, rounded upward
abbrev pub ceiling : ℕ → ℕ → ℕ
ceiling d r = (d + (r - 1)) / r

unfoldable pub remaining_of : Loop → ℕ
remaining_of l = ceiling (distance l) (plus l.rate)
