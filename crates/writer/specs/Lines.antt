-- 01, "Settings text", with 02's requests 5, 7 and 8: the text that settings have.
use Rattle.std.specs.Prelude.{ℕ, ◌+◌, cond, List, [], ◌∷◌, ◌++◌, ltb, eqb, ℤ}
use Rattle.whole.specs.Words.{bytes}
use Rattle.settings.specs.declared.table.Row.{Row}
use Rattle.settings.specs.declared.Settings.{Settings}
use Rattle.settings.specs.Table.{firsts, heads, sets, short_sets, rows_of, picked, key_of}
use Rattle.settings.specs.Settings.{values_of}
use Rattle.word.specs.Decimal.{decimal}

-- "each key, `=`, value, one line feed (byte 10)"
abbrev pub line_of : Row → ℤ → List ℕ
line_of r z = key_of r ++ (decimal z ++ bytes "\n")

-- a line for each row, with its value; values that have no row have no line
abbrev pub lines_of : List Row → List ℤ → List ℕ
lines_of [] vs = []
lines_of (r ∷ rs) [] = []
lines_of (r ∷ rs) (z ∷ vs) = line_of r z ++ lines_of rs vs

-- ---- the text in each of its forms

-- how many rows before the gain sets a text may have: of mean and jump "a text may have neither line, mean alone, or both"
pub data Headed : ℕ → Type 0 where
  both_lines : Headed heads
  mean_alone : Headed (firsts + 1)
  neither_line : Headed firsts

-- and how many gain sets: all, or those of "a text that ends after 26 lines"
pub data Gained : ℕ → Type 0 where
  full : Gained sets
  short : Gained short_sets

-- the lines of the first h rows before the gain sets, and of the first n sets
unfoldable pub text_for : ℕ → ℕ → Settings → List ℕ
text_for h n s = lines_of (picked h (rows_of n)) (picked h (values_of s))

-- "Writing always gives 86 lines", and mean: "The writer always gives it"; as it does jump
abbrev pub text_of : Settings → List ℕ
text_of s = text_for heads sets s

-- where mean has a line, `mean=128` and its line feed are 9 bytes, and where jump has one, `jump=2000000` and its line feed are 13
abbrev pub longest_later : ℕ → ℕ
longest_later h = cond (ltb firsts h) 9 0 + cond (ltb (firsts + 1) h) 13 0

-- 01's "The longest text has 306 bytes", which is that of 26 lines, and "86 lines, 1,044 bytes at most"; those two lines are more
abbrev pub longest_for : ℕ → ℕ → ℕ
longest_for h n = cond (eqb n sets) 1044 306 + longest_later h

abbrev pub longest_text : ℕ
longest_text = longest_for heads sets
