-- How long a text can be: each value at its row's widest, but that hi, being above lo, has at most 7 bytes.
use Prim.Native.Nat.{ℕ, zero, suc, ◌+◌, ◌*◌, ◌<◌, ◌≤◌, max}
use mathlib.Core.Path.{◌≡◌, refl, ap, ◌∙◌}
use mathlib.Core.Bool.{true}
use mathlib.Core.List.{List, [], ◌∷◌, ◌++◌, map}
use native.Mathlib.Nat.{suc-mul}
use native.Mathlib.Omega.{arith}
use lib.IntN.{ℤ, pos, ◌+ℤ◌}
use lib.ListN.{length, get_or, take, set, length-append}
use lib.Signed.{le_z, lt_z}
use Rattle.whole.specs.Numbers.{inside}
use Rattle.whole.proofs.Truth.{never, both, and}
use Rattle.whole.proofs.Parts.{zs, yes_le}
use Rattle.whole.proofs.Lin.{Lin, at, lin_add, lin_pos}
use Rattle.settings.specs.declared.table.Row.{Row}
use Rattle.settings.specs.declared.Settings.{Settings}
use Rattle.settings.specs.Table.{first_rows, head_rows, gain_rows, sets, short_sets, firsts, keys, numbered, set_rows, each, numbers_from, rows_of, rows, picked, no_row, in_row, key_of}
use Rattle.settings.specs.Settings.{all_in, in_table, ordered, values_of}
use Rattle.settings.proofs.Lists.{all}
use Rattle.settings.proofs.Rows.{rows_long, values_long}
use Rattle.settings.proofs.Ranges.{all_at, rows_front}
use Rattle.settings.proofs.Forms.{rows_picked, picked_in}
use Rattle.word.specs.Decimal.{shown, decimal}
use Rattle.word.proofs.Widths.{width}
use Rattle.writer.specs.Lines.{lines_of, Headed, both_lines, mean_alone, neither_line, Gained, full, short, text_for, longest_later, longest_for}
use Rattle.writer.proofs.Rows.{lettered, gains_lettered, key_numbered, headed}

-- ---- lines

-- the most bytes of the rows' lines
abbrev longest_of : List Row → ℕ
longest_of [] = 0
longest_of (r ∷ rs) = length (key_of r) + max (length (decimal r.least)) (length (decimal r.most)) + 1 + longest_of rs

lines_long : (rs : List Row) (vs : List ℤ) → all_in rs vs ≡ true → length (lines_of rs vs) ≤ longest_of rs
lines_long [] vs e = omega arith
lines_long (r ∷ rs) [] e = never e
lines_long (r ∷ rs) (z ∷ vs) e =
    let b = both (in_row r z) (all_in rs vs) e in
    let w = width r.least r.most z b.0 in
    let h = lines_long rs vs b.1 in
    simp length-append (omega arith)

longest_both : (rs qs : List Row) → longest_of (rs ++ qs) ≡ longest_of rs + longest_of qs
longest_both [] qs = omega arith
longest_both (r ∷ rs) qs = omega (arith, longest_both rs qs)

-- ---- the lines of gain sets

-- the number of the set and the `=` in each key
set_longest : (k : ℕ) (rs : List Row) → k < sets → all lettered rs ≡ true →
    longest_of (map (λ r. numbered r k) rs) ≡ longest_of rs + length rs * (length (shown k) + 1)
set_longest k [] h e = omega arith
set_longest k (r ∷ rs) h e =
    let b = both (lettered r) (all lettered rs) e in
    let n = ap length (key_numbered k h r b.0) in
    let m : length (key_of (numbered r k)) ≡ length (key_of r) + (length (shown k) + 1) = simp length-append at n in
    omega (arith, m, set_longest k rs h b.1, suc-mul (length rs) (length (shown k) + 1))

-- the digits of n numbers from k on
abbrev digits_from : ℕ → ℕ → ℕ
digits_from k zero = 0
digits_from k (suc n) = length (shown k) + digits_from (k + 1) n

gains_longest : longest_of gain_rows ≡ 49
unfolding shown
gains_longest = refl

sets_longest : (k n : ℕ) → k + n ≤ sets → longest_of (each set_rows (numbers_from k n)) ≡ 54 * n + keys * digits_from k n
sets_longest k zero h = omega arith
sets_longest k (suc n) h =
    longest_both (set_rows k) (each set_rows (numbers_from (k + 1) n))
    ∙ omega (arith, set_longest k gain_rows (omega arith) gains_lettered, gains_longest, sets_longest (k + 1) n (omega arith))

-- ---- hi

-- one row in the place of another
in_set : (rs : List Row) (vs : List ℤ) (i : ℕ) (q : Row) → all_in rs vs ≡ true → in_row q (get_or vs i (pos 0)) ≡ true → all_in (set rs i q) vs ≡ true
in_set [] vs i q e g = refl
in_set (r ∷ rs) [] i q e g = never e
in_set (r ∷ rs) (z ∷ vs) zero q e g = and g (both (in_row r z) (all_in rs vs) e).1
in_set (r ∷ rs) (z ∷ vs) (suc i) q e g =
    let b = both (in_row r z) (all_in rs vs) e in
    and b.0 (in_set rs vs i q b.1 g)

-- hi is above lo, so it is above the least of its range
above : (least lo hi : ℤ) → le_z least lo ≡ true → lt_z lo hi ≡ true → le_z (least +ℤ pos 1) hi ≡ true
above least lo hi p q = let a : Lin (least +ℤ pos 1) = lin_add (at least) lin_pos in yes_le (least +ℤ pos 1) hi (omega (arith, zs))

-- the row of hi, and what its least value then is
abbrev hi_row : Row
hi_row = record {
  key = (get_or head_rows 2 no_row).key;
  len = (get_or head_rows 2 no_row).len;
  least = (get_or head_rows 1 no_row).least +ℤ pos 1;
  most = (get_or head_rows 2 no_row).most;
}

-- with the lines of h rows before the gain sets
heads_longest : (h : ℕ) (rs : List Row) → Headed h → longest_of (set (take h head_rows ++ rs) 2 hi_row) ≡ 70 + longest_later h + longest_of rs
unfolding shown
heads_longest h rs both_lines = longest_both (set head_rows 2 hi_row) rs
heads_longest h rs mean_alone = longest_both (set (take (firsts + 1) head_rows) 2 hi_row) rs
heads_longest h rs neither_line = longest_both (set first_rows 2 hi_row) rs

-- ---- the text

-- with the lines of h rows before the gain sets, and of n sets
module _ (h n : ℕ) (s : Settings) (a : Headed h) (m : n ≤ sets) (g : length s.gains ≡ sets) (e : in_table s ≡ true) (o : ordered s ≡ true) where
  lines_in : all_in (picked h (rows_of n)) (picked h (values_of s)) ≡ true
  unfolding in_table
  lines_in =
      let b = headed h a in
      picked_in h b.0 b.1 (rows_of n) (values_of s) (omega (arith, rows_long n)) (omega (arith, values_long s g)) (rows_front n (values_of s) m e)

  -- hi in the row that is left to it
  hi_in : in_row hi_row s.hi ≡ true
  unfolding in_table rows_of
  hi_in =
      let lo = all_at rows (values_of s) e 1 (omega (arith, rows_long sets)) in
      let hi = all_at rows (values_of s) e 2 (omega (arith, rows_long sets)) in
      let lo-least = (both (le_z (get_or head_rows 1 no_row).least s.lo) (le_z s.lo (get_or head_rows 1 no_row).most) lo).0 in
      let hi-most = (both (le_z (get_or head_rows 2 no_row).least s.hi) (le_z s.hi (get_or head_rows 2 no_row).most) hi).1 in
      let lower = (both (lt_z s.lo s.hi) (inside s.lo s.hi s.out) o).0 in
      and (above (get_or head_rows 1 no_row).least s.lo s.hi lo-least lower) hi-most

  hi_at : (h : ℕ) → Headed h → get_or (picked h (values_of s)) 2 (pos 0) ≡ s.hi
  hi_at h both_lines = refl
  hi_at h mean_alone = refl
  hi_at h neither_line = refl

  -- the line of hi is the same
  hi_line : (h : ℕ) → Headed h → lines_of (set (picked h (rows_of n)) 2 hi_row) (picked h (values_of s)) ≡ lines_of (picked h (rows_of n)) (picked h (values_of s))
  unfolding rows_of
  hi_line h both_lines = refl
  hi_line h mean_alone = refl
  hi_line h neither_line = refl

  lines_most : length (text_for h n s) ≤ 70 + longest_later h + (54 * n + keys * digits_from 0 n)
  unfolding text_for
  lines_most =
      let rs = picked h (rows_of n) in
      let vs = picked h (values_of s) in
      let i = in_set rs vs 2 hi_row lines_in (ap (in_row hi_row) (hi_at h a) ∙ hi_in) in
      let b = headed h a in
      let p = ap (λ (qs : List Row). longest_of (set qs 2 hi_row)) (rows_picked h b.0 b.1 n) in
      let l : length (lines_of (set rs 2 hi_row) vs) ≤ longest_of (set rs 2 hi_row) = lines_long (set rs 2 hi_row) vs i in
      omega (arith, l, ap length (hi_line h a), p, heads_longest h (each set_rows (numbers_from 0 n)) a, sets_longest 0 n (omega arith))

digits_of_all : digits_from 0 sets ≡ 22
unfolding shown
digits_of_all = refl

short_digits : digits_from 0 short_sets ≡ 4
unfolding shown
short_digits = refl

-- in each of the forms
pub text_long : (h n : ℕ) (s : Settings) → Headed h → Gained n → length s.gains ≡ sets → in_table s ≡ true → ordered s ≡ true → length (text_for h n s) ≤ longest_for h n
text_long h n s a full g e o = omega (arith, lines_most h sets s a (omega arith) g e o, digits_of_all)
text_long h n s a short g e o = omega (arith, lines_most h short_sets s a (omega arith) g e o, short_digits)
