-- How large a sum of temperatures is: what the functions of the mean may ask of their callers.
use Rattle.std.specs.Prelude.{ℕ, ◌*◌, ◌≤◌, List, ℤ, pos, negsuc, ◌*ℤ◌, take, get_or, ◌≤ℤ◌}
use Rattle.std.specs.Int.{w32}
use Rattle.std.proofs.Common.{SFits}
use Rattle.settings.specs.Table.{reach, window}
use Rattle.window.specs.declared.means.Summed.{Summed}
use Rattle.window.specs.Window.{sum_of}

-- the sum of the first n, and how many they are
abbrev pub summed_of : ℕ → List ℤ → Summed
summed_of n all = record { n = n; sum = sum_of (take n all) }

-- each of them is a number of 32 bits
abbrev pub Bits : List ℤ → Type 0
Bits xs = (i : ℕ) → SFits w32 (get_or xs i (pos 0))

-- the most of a sum of so many numbers of 32 bits as the window has places, its sign left aside
abbrev pub sum_most : ℕ
sum_most = window * 2147483648

-- and of so many temperatures in range
abbrev pub sum_reach : ℕ
sum_reach = window * reach

-- the sum of n numbers of 32 bits
pub record MeanOk (sum : ℤ) (n : ℕ) : Type 0 where
  pub few : n ≤ window
  pub low : (negsuc 2147483647 *ℤ pos n) ≤ℤ sum
  pub high : sum ≤ℤ (pos 2147483647 *ℤ pos n)
