-- Rules of the rows of a text's lines, shown once for any gain set.
use Prim.Native.Nat.{ℕ, zero, suc, ◌+◌, ◌-◌, ◌<◌, ◌≤◌}
use mathlib.Core.Path.{◌≡◌, refl, sym, ap, ap₂, ◌∙◌}
use mathlib.Core.Bool.{Bool, true, not, ◌&&◌}
use mathlib.Core.List.{List, [], ◌∷◌, ◌++◌, map}
use native.Mathlib.Omega.{arith}
use borrow.Author.Tests.{leb-true, le-leb, eqb-true, ne_eqb}
use lib.Dec.{leb, ltb, eqb}
use lib.IntN.{ℤ, pos, negsuc}
use lib.ListN.{length, get_or, take, drop, length-append, length-take, drop_of_length-le, get_or-append}
use lib.Seq.{sets-eq, take_at}
use lib.Signed.{le_z}
use Rattle.whole.specs.Words.{bytes}
use Rattle.whole.proofs.Truth.{both, and, chosen}
use Rattle.whole.proofs.Lists.{next}
use Rattle.settings.specs.declared.table.Row.{Row}
use Rattle.settings.specs.Table.{longest_key, head_rows, gain_rows, firsts, heads, sets, short_sets, lines_for, lines, numbered, set_rows, each, numbers_from, rows_of, rows, picked, place_of, no_row, key_of}
use Rattle.settings.specs.declared.Settings.{Settings}
use Rattle.settings.specs.Settings.{values_of}
use Rattle.settings.proofs.Lists.{all, all_at, all_both, all_take, all_drop}
use Rattle.settings.proofs.Rows.{rows_long, rows_parts}
use Rattle.settings.proofs.Forms.{picked_all, picked_long, picked_append, picked_at}
use Rattle.word.specs.Decimal.{is_digit, all_digits, shown}
use Rattle.word.specs.End.{feed}
use Rattle.word.proofs.Words.{without, without_both}
use Rattle.word.proofs.Digits.{digit}
use Rattle.word.proofs.Decimals.{shown_form}
use Rattle.writer.specs.Lines.{line_of, lines_of, Headed, both_lines, mean_alone, neither_line, Gained, full, short, text_for, text_of}

-- ---- bytes without a line feed

abbrev pub plain : List ℕ → Bool
plain w = without feed w

plain_digits : (w : List ℕ) → all_digits w ≡ true → plain w ≡ true
plain_digits [] e = refl
plain_digits (b ∷ w) e =
    let t = both (is_digit b) (all_digits w) e in
    let d = digit b t.0 in
    and (ap not (ne_eqb b feed (λ q. omega arith))) (plain_digits w t.1)

pub plain_shown : (n : ℕ) → plain (shown n) ≡ true
plain_shown n = plain_digits (shown n) (shown_form n).all

-- ---- one row

-- a row that fits the lines: a key of at most so many bytes and no line feed, and only numbers of at most 7 digits in its range
abbrev in_digits : Row → Bool
in_digits r = le_z (negsuc 9999998) r.least && le_z r.most (pos 9999999)

abbrev pub lined : Row → Bool
lined r = leb r.len longest_key && (plain (key_of r) && in_digits r)

pub record Lined (r : Row) : Type 0 where
  pub short : r.len ≤ longest_key
  pub key : plain (key_of r) ≡ true
  pub least : le_z (negsuc 9999998) r.least ≡ true
  pub most : le_z r.most (pos 9999999) ≡ true

pub is_lined : (r : Row) → lined r ≡ true → Lined r
is_lined r e =
    let b = both (leb r.len longest_key) (plain (key_of r) && in_digits r) e in
    let p = both (plain (key_of r)) (in_digits r) b.1 in
    let n = both (le_z (negsuc 9999998) r.least) (le_z r.most (pos 9999999)) p.1 in
    record { short = leb-true r.len longest_key b.0; key = p.0; least = n.0; most = n.1 }

-- a key has as many bytes as its row says
pub key_length : (r : Row) → length r.key ≡ longest_key → r.len ≤ longest_key → length (key_of r) ≡ r.len
key_length r e h = simp length-take (omega arith)

-- and no key has more than there is room for
pub key_few : (r : Row) → length r.key ≡ longest_key → length (key_of r) ≤ longest_key
key_few r e = simp length-take (omega arith)

-- ---- a row of the gain sets'

-- after its letters there is room for two digits and the `=`
abbrev pub lettered : Row → Bool
lettered r = (leb (r.len + 3) longest_key && eqb (length r.key) longest_key) && lined r

pub gains_lettered : all lettered gain_rows ≡ true
gains_lettered = refl

number_short : (k : ℕ) → k < sets → length (shown k) ≤ 2
number_short k h = (shown_form k).few 2 (omega arith) (omega arith)

module _ (k : ℕ) (h : k < sets) where
  module _ (r : Row) (l : lettered r ≡ true) where
    record Room : Type 0 where
      room : r.len + 3 ≤ longest_key
      long : length r.key ≡ longest_key
      fit : Lined r

    room_left : Room
    room_left =
        let a = both (leb (r.len + 3) longest_key && eqb (length r.key) longest_key) (lined r) l in
        let b = both (leb (r.len + 3) longest_key) (eqb (length r.key) longest_key) a.0 in
        record {
          room = leb-true (r.len + 3) longest_key b.0;
          long = eqb-true (length r.key) longest_key b.1;
          fit = is_lined r a.1;
        }

    -- its key in gain set k
    pub key_numbered : key_of (numbered r k) ≡ key_of r ++ (shown k ++ bytes "=")
    key_numbered =
        let w = shown k ++ bytes "=" in
        let t = room_left in
        let n : length w ≡ length (shown k) + 1 = simp length-append in
        let m : length (key_of r ++ w) ≡ r.len + (length (shown k) + 1) = length-append (key_of r) w ∙ omega (arith, n, key_length r t.long t.fit.short) in
        ap (take (r.len + (length (shown k) + 1)))
        (sets-eq w r.key r.len (omega (arith, n, number_short k h, t.room, t.long)))
        ∙ take_at (key_of r ++ w) (drop (r.len + length w) r.key) (r.len + (length (shown k) + 1)) m

    numbered_lined : lined (numbered r k) ≡ true
    numbered_lined =
        let t = room_left in
        let f = t.fit in
        let p = without_both feed (key_of r) (shown k ++ bytes "=") f.key (without_both feed (shown k) (bytes "=") (plain_shown k) refl) in
        and (le-leb (r.len + (length (shown k) + 1)) longest_key (omega (arith, number_short k h, t.room)))
        (and (ap plain key_numbered ∙ p) (and f.least f.most))

  letters_lined : (rs : List Row) → all lettered rs ≡ true → all lined (map (λ r. numbered r k) rs) ≡ true
  letters_lined [] e = refl
  letters_lined (r ∷ rs) e = let b = both (lettered r) (all lettered rs) e in and (numbered_lined r b.0) (letters_lined rs b.1)

-- ---- the rows of all lines

sets_lined : (k n : ℕ) → k + n ≤ sets → all lined (each set_rows (numbers_from k n)) ≡ true
sets_lined k zero h = refl
sets_lined k (suc n) h =
    all_both lined (set_rows k) (each set_rows (numbers_from (k + 1) n)) (letters_lined k (omega arith) gain_rows gains_lettered) (sets_lined (k + 1) n (omega arith))

rows_lined : (n : ℕ) → n ≤ sets → all lined (rows_of n) ≡ true
unfolding rows_of
rows_lined n h = all_both lined head_rows (each set_rows (numbers_from 0 n)) refl (sets_lined 0 n (omega arith))

pub key_short : (i : ℕ) → (get_or rows i no_row).len ≤ longest_key
unfolding no_row
key_short i = (is_lined (get_or rows i no_row) (all_at lined no_row rows (rows_lined sets (omega arith)) refl i)).short

-- ---- the rows of a text's lines: the first h before the gain sets, and those of n sets

module _ (h n : ℕ) (m : h ≤ heads) where
  enough : heads ≤ length (rows_of n)
  enough = omega (arith, rows_long n)

  pub form_long : length (picked h (rows_of n)) ≡ lines_for h n
  form_long = picked_long h m (rows_of n) enough ∙ omega (arith, rows_long n)

  pub form_lined : n ≤ sets → all lined (picked h (rows_of n)) ≡ true
  form_lined l =
      all_both lined (take h (rows_of n)) (drop heads (rows_of n)) (all_take lined (rows_of n) h (rows_lined n l)) (all_drop lined (rows_of n) heads (rows_lined n l))

  pub form_next : (i : ℕ) → i < lines_for h n → drop i (picked h (rows_of n)) ≡ get_or (picked h (rows_of n)) i no_row ∷ drop (i + 1) (picked h (rows_of n))
  form_next i l = next (picked h (rows_of n)) i no_row (omega (arith, form_long))

  pub form_done : (i : ℕ) → lines_for h n ≤ i → drop i (picked h (rows_of n)) ≡ []
  form_done i l = let k : length (picked h (rows_of n)) ≤ i = omega (arith, form_long) in drop_of_length-le (picked h (rows_of n)) k

  -- those of fewer gain sets are the first of all
  pub form_parts : n ≤ sets → picked h rows ≡ picked h (rows_of n) ++ each set_rows (numbers_from n (sets - n))
  form_parts l = ap (picked h) (rows_parts n l) ∙ picked_append h m (rows_of n) enough (each set_rows (numbers_from n (sets - n)))

  pub form_at : (i : ℕ) → n ≤ sets → i < lines_for h n → get_or (picked h (rows_of n)) i no_row ≡ get_or (picked h rows) i no_row
  form_at i l k =
      sym
      (ap (λ (rs : List Row). get_or rs i no_row) (form_parts l)
      ∙ get_or-append (picked h (rows_of n)) (each set_rows (numbers_from n (sets - n))) no_row i (omega (arith, form_long)))

-- the row of line i, by its place
pub row_at : (h i : ℕ) → h ≤ heads → get_or (picked h rows) i no_row ≡ get_or rows (place_of h i) no_row
row_at h i m = picked_at h m rows (omega (arith, rows_long sets)) i no_row

pub place_in : (h n i : ℕ) → h ≤ heads → n ≤ sets → i < lines_for h n → place_of h i < lines
place_in h n i m l k = chosen (λ (j : ℕ). j < lines) (ltb i h) (λ _. omega arith) (λ _. omega arith)

-- ---- the lines of the rows

pub lines_next : (vs : List ℤ) (i : ℕ) → i < lines → length vs ≡ lines →
    lines_of (drop i rows) (drop i vs) ≡ line_of (get_or rows i no_row) (get_or vs i (pos 0)) ++ lines_of (drop (i + 1) rows) (drop (i + 1) vs)
lines_next vs i h e = rw (next rows i no_row (omega (arith, rows_long sets)), next vs i (pos 0) (omega arith))

pub lines_end : (vs : List ℤ) (i : ℕ) → lines ≤ i → lines_of (drop i rows) vs ≡ []
lines_end vs i h = rw (drop_of_length-le rows {i = i} (omega (arith, rows_long sets)))

-- the writer's text has every line
pub text_whole : (s : Settings) → text_of s ≡ lines_of rows (values_of s)
unfolding text_for
text_whole s = ap₂ lines_of (picked_all rows) (picked_all (values_of s))

-- ---- the forms

pub headed : (h : ℕ) → Headed h → (firsts ≤ h) × (h ≤ heads)
headed h both_lines = (omega arith, omega arith)
headed h mean_alone = (omega arith, omega arith)
headed h neither_line = (omega arith, omega arith)

pub gained : (n : ℕ) → Gained n → (short_sets ≤ n) × (n ≤ sets)
gained n full = (omega arith, omega arith)
gained n short = (omega arith, omega arith)
