-- 01, "Units" and "Settings text", with 02's requests 5, 7 and 8: the settings' keys, their order and their ranges.
use Rattle.std.specs.Prelude.{ℕ, zero, suc, ◌+◌, ◌-◌, ◌*◌, Bool, cond, List, [], ◌∷◌, ◌++◌, map, ltb, length, take, drop, replicate, get_or, ℤ, pos, neg_ℤ}
use denote.Ref.{Bor}
use Prim.Native.String.{String}
use Rattle.std.proofs.lemmas.List.Edits.{sets as puts}
use Rattle.whole.specs.Numbers.{inside}
use Rattle.settings.specs.declared.table.Row.{Row}
use Rattle.whole.specs.Words.{bytes}
use Rattle.word.specs.Decimal.{shown}

-- ---- the ends of the ranges

-- temperatures and outputs lie within ±1,000,000
abbrev pub reach : ℕ
reach = 1000000

abbrev pub in_reach : ℤ → Bool
in_reach z = inside (neg_ℤ (pos reach)) (pos reach) z

-- a rate is at most 2,000,000
abbrev pub fastest : ℕ
fastest = 2000000

-- kp, ki and kd are at most 64 times F
abbrev pub gain : ℕ
gain = 4194304

-- alpha and kt are at most F
abbrev pub share : ℕ
share = 65536

-- a mean is over at most 128 temperatures
abbrev pub window : ℕ
window = 128

-- a jump is at most 2,000,000: so far apart two temperatures can be
abbrev pub farthest : ℕ
farthest = 2000000

-- ---- the table

-- a key with its `=` has at most eight bytes
abbrev pub longest_key : ℕ
longest_key = 8

-- a key at the front of so many bytes, how many bytes it has, and the least and the most of the value
abbrev pub keyed : List ℕ → ℤ → ℤ → Row
keyed letters least most = record {
  key = puts (replicate longest_key 0) 0 letters;
  len = length letters;
  least = least;
  most = most;
}

abbrev pub row : String → ℤ → ℤ → Row
row key least most = keyed (bytes key) least most

-- what stands past the table's end
unfoldable pub no_row : Row
no_row = row "" (pos 0) (pos 0)

-- a key with its range, and the row of place j in a list of them
abbrev pub row_of : Bor (List ℕ) × ℤ × ℤ → Row
row_of kind = keyed kind.0.now kind.1 kind.2

unfoldable pub row_at : List (Bor (List ℕ) × ℤ × ℤ) → ℕ → Row
row_at kinds j = get_or (map row_of kinds) j no_row

-- "action, lo, hi, out, sp, rate", which every text has
abbrev pub first_rows : List Row
first_rows =
    row "action=" (pos 0) (pos 1)
    ∷ row "lo=" (neg_ℤ (pos reach)) (pos reach)
    ∷ row "hi=" (neg_ℤ (pos reach)) (pos reach)
    ∷ row "out=" (neg_ℤ (pos reach)) (pos reach)
    ∷ row "sp=" (neg_ℤ (pos reach)) (pos reach)
    ∷ row "rate=" (pos 1) (pos fastest)
    ∷ []

-- "One settings line, mean, follows rate", and jump is "a settings line after mean": those that a text may leave out
abbrev pub later_rows : List Row
later_rows = row "mean=" (pos 1) (pos window) ∷ row "jump=" (pos 1) (pos farthest) ∷ []

abbrev pub head_rows : List Row
head_rows = first_rows ++ later_rows

-- "The last three rows stand in each of four gain sets", which are sixteen now: the letters of their five keys
abbrev pub gain_rows : List Row
gain_rows =
    row "kp" (pos 0) (pos gain)
    ∷ row "ki" (pos 0) (pos gain)
    ∷ row "kd" (pos 0) (pos gain)
    ∷ row "alpha" (pos 1) (pos share)
    ∷ row "kt" (pos 0) (pos share)
    ∷ []

-- "one constant table of rows"
unfoldable pub table : List Row
table = head_rows ++ gain_rows

-- "Raise four to sixteen": gain sets 0 to 15
abbrev pub sets : ℕ
sets = 16

-- the four that there were, of which "a text that ends after 26 lines is still read"
abbrev pub short_sets : ℕ
short_sets = 4

-- ---- the rows of the text's lines

-- how many stand before those of the gain sets, of which every text has the first, and how many in each set
abbrev pub firsts : ℕ
firsts = length first_rows

abbrev pub heads : ℕ
heads = length head_rows

abbrev pub keys : ℕ
keys = length gain_rows

-- how many lines there are with h rows before the gain sets, and n gain sets
abbrev pub lines_for : ℕ → ℕ → ℕ
lines_for h n = h + keys * n

-- "the text has 86 lines", and with mean and jump two more
abbrev pub lines : ℕ
lines = lines_for heads sets

-- the row in gain set k: the set's number and `=` are put after its letters
abbrev pub numbered : Row → ℕ → Row
numbered r k = record {
  key = puts r.key r.len (shown k ++ bytes "=");
  len = r.len + (length (shown k) + 1);
  least = r.least;
  most = r.most;
}

-- "kp0 ki0 kd0 alpha0 kt0", with k in the place of 0
abbrev pub set_rows : ℕ → List Row
set_rows k = map (λ r. numbered r k) gain_rows

-- what f gives for each element, one after the other
abbrev pub each : {A B : Type 0} → (B → List A) → List B → List A
each f [] = []
each f (b ∷ bs) = f b ++ each f bs

-- n numbers from k on
abbrev pub numbers_from : ℕ → ℕ → List ℕ
numbers_from k zero = []
numbers_from k (suc n) = k ∷ numbers_from (k + 1) n

-- "action, lo, hi, out, sp, rate", mean, jump, "then kp0 ki0 kd0 alpha0 kt0, then the same for sets 1, 2 and 3", and on: with n gain sets
unfoldable pub rows_of : ℕ → List Row
rows_of n = head_rows ++ each set_rows (numbers_from 0 n)

abbrev pub rows : List Row
rows = rows_of sets

-- of a list that has an element for each row, those whose rows have a line: of the rows before the gain sets, the first h
abbrev pub picked : {A : Type 0} → ℕ → List A → List A
picked h xs = take h xs ++ drop heads xs

-- the place of line i among all rows, lines and rows counted from 0
abbrev pub place_of : ℕ → ℕ → ℕ
place_of h i = cond (ltb i h) i (i + (heads - h))

-- the bytes of a row's key, with its `=`
abbrev pub key_of : Row → List ℕ
key_of r = take r.len r.key

-- ---- a value within its range

abbrev pub in_row : Row → ℤ → Bool
in_row r z = inside r.least r.most z
