-- 01, "Units": the constants but those of the settings' ranges.
use Rattle.std.specs.Prelude.{ℕ, ◌+◌, ◌*◌, ◌/◌, ℤ, pos}

-- "F = 65,536. A fine amount is an output amount times F."
abbrev pub F : ℕ
F = 65536

-- a fine amount as 01's tables write it, in units of F: 90.5, that is 90.50, is `fine 90 50`
abbrev pub fine : ℕ → ℕ → ℤ
fine n hundredths = pos ((n * 100 + hundredths) * F / 100)

-- "|I| at most B = 16,842,752,000,000"
abbrev pub B : ℕ
B = 16842752000000

-- the filter, a temperature times F, lies within ±65,536,000,000
abbrev pub fine_reach : ℕ
fine_reach = 65536000000
