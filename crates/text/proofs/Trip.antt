-- Lines there and back: what is written for values is read as these values, and a line that is accepted is written back.
use Prim.Native.Nat.{ℕ, zero, suc, ◌+◌, ◌^◌, ◌<◌, ◌≤◌}
use mathlib.Core.Path.{◌≡◌, refl, sym, ap, ap₂, ◌∙◌}
use mathlib.Core.Bool.{true}
use mathlib.Core.List.{List, [], ◌∷◌, ◌++◌, append_assoc, append-nil}
use native.Mathlib.Nat.{add-zero}
use native.Mathlib.Omega.{arith}
use borrow.Author.Tests.{lt-ltb}
use lib.IntN.{ℤ, pos, negsuc, nat_abs}
use lib.ListN.{length, take, drop, length-append}
use lib.Signed.{le_z}
use lib.Seq.{drop_at}
use Rattle.whole.proofs.Truth.{never, both, and}
use Rattle.whole.specs.Numbers.{inside}
use Rattle.whole.proofs.Parts.{zs, inside_yes}
use Rattle.settings.specs.declared.table.Row.{Row}
use Rattle.settings.specs.Table.{in_row, key_of}
use Rattle.settings.specs.Settings.{all_in, settings_of, completed, filled}
use Rattle.settings.proofs.Lists.{all}
use Rattle.settings.proofs.Ranges.{all_append}
use Rattle.word.specs.Decimal.{is_decimal, number_of, decimal}
use Rattle.word.specs.End.{end_at, feed, begins}
use Rattle.word.proofs.Words.{without_both, end_without, before_first, after_first, at_byte, begins_self, begins_split}
use Rattle.word.proofs.Decimals.{decimal_read, read_decimal}
use Rattle.writer.specs.Lines.{line_of, lines_of}
use Rattle.text.specs.Reader.{Reading, line_in, ended, after_line, word_in, formed, line_code, line_value, after_lines, read_end, read_from}
use Rattle.writer.proofs.Rows.{plain, plain_shown, lined, is_lined}
use Rattle.text.proofs.Texts.{line_yes, feed_there, end_yes, line_taken, first_taken}

-- ---- bytes without a line feed

plain_decimal : (z : ℤ) → plain (decimal z) ≡ true
plain_decimal (pos n) = plain_shown n
plain_decimal (negsuc n) = plain_shown (suc n)

-- a text that begins with such bytes and a line feed
module _ (w s : List ℕ) (e : plain w ≡ true) where
  line_first : line_in (w ++ (feed ∷ s)) ≡ w
  unfolding line_in
  line_first = before_first feed w s e

  line_ended : ended (w ++ (feed ∷ s)) ≡ true
  unfolding ended
  line_ended = lt-ltb (end_at feed (w ++ (feed ∷ s))) (length (w ++ (feed ∷ s))) (rw (end_without feed w s e, length-append w (feed ∷ s)) (omega arith))

  line_after : after_line (w ++ (feed ∷ s)) ≡ s
  unfolding after_line
  line_after = after_first feed w s e

line_split : (s : List ℕ) → ended s ≡ true → s ≡ line_in s ++ (feed ∷ after_line s)
unfolding line_in after_line
line_split s e = at_byte feed s (feed_there s e)

-- ---- one line

small : (z least most : ℤ) → le_z (negsuc 9999998) least ≡ true → le_z most (pos 9999999) ≡ true → inside least most z ≡ true →
    nat_abs z < 10 ^ 7
small (pos n) least most a b i = let j = inside_yes least most (pos n) i in omega (arith, zs)
small (negsuc n) least most a b i = let j = inside_yes least most (negsuc n) i in omega (arith, zs)

-- what is written for a value in its range is read as that value
record Back (r : Row) (z : ℤ) (s : List ℕ) : Type 0 where
  code : line_code r (line_of r z ++ s) ≡ 0
  value : line_value r (line_of r z ++ s) ≡ z
  after : after_line (line_of r z ++ s) ≡ s

word_written : (r : Row) (w : List ℕ) → word_in r (key_of r ++ w) ≡ w
unfolding word_in
word_written r w = drop_at (key_of r) w (length (key_of r)) refl

form_written : (r : Row) (z : ℤ) → nat_abs z < 10 ^ 7 → formed r (key_of r ++ decimal z) ≡ true
unfolding formed
form_written r z h = and (begins_self (key_of r) (decimal z)) (ap is_decimal (word_written r (decimal z)) ∙ (decimal_read z h).form)

line_read_back : (r : Row) (z : ℤ) (s : List ℕ) → lined r ≡ true → in_row r z ≡ true → Back r z s
unfolding line_code line_value
line_read_back r z s l i =
    let f = is_lined r l in
    let h = small z r.least r.most f.least f.most i in
    let w = key_of r ++ decimal z in
    let e : plain w ≡ true = without_both feed (key_of r) (decimal z) f.key (plain_decimal z) in
    let q : line_of r z ++ s ≡ w ++ (feed ∷ s) = simp append_assoc in
    let v : number_of (word_in r w) ≡ z = ap number_of (word_written r (decimal z)) ∙ (decimal_read z h).number in
    record {
      code = rw (q, line_ended w s e, line_first w s e, form_written r z h, v, i);
      value = rw (q, line_first w s e) v;
      after = rw q (line_after w s e);
    }

-- a line that is accepted is what is written for its value
line_back : (r : Row) (s : List ℕ) → line_code r s ≡ 0 → s ≡ line_of r (line_value r s) ++ after_line s
unfolding line_value formed word_in
line_back r s e =
    let a = line_yes r s e in
    let f = both (begins (key_of r) (line_in s)) (is_decimal (word_in r (line_in s))) a.form in
    let d = (read_decimal (word_in r (line_in s)) f.1).same in
    let l = begins_split (key_of r) (line_in s) f.0 ∙ ap (λ (x : List ℕ). key_of r ++ x) (sym d) in
    line_split s a.closed ∙ ap (λ (x : List ℕ). x ++ (feed ∷ after_line s)) l ∙ simp append_assoc

-- ---- the lines

-- what is written for values in their ranges is read as those values, whatever rows and bytes follow
pub lines_read : (h k : ℕ) (rs more : List Row) (n : ℕ) (before vs : List ℤ) (s : List ℕ) → all lined rs ≡ true → all_in rs vs ≡ true → length vs ≡ length rs →
    read_from h k (rs ++ more) n before (lines_of rs vs ++ s) ≡ read_from h k more (n + length rs) (before ++ vs) s
lines_read h k [] more n before [] s l i e = rw (append-nil before, add-zero n)
lines_read h k [] more n before (z ∷ vs) s l i e = absurd (omega arith)
lines_read h k (r ∷ rs) more n before [] s l i e = absurd (omega arith)
lines_read h k (r ∷ rs) more n before (z ∷ vs) s l i e =
    let p = both (lined r) (all lined rs) l in
    let q = both (in_row r z) (all_in rs vs) i in
    let rest = lines_of rs vs ++ s in
    let b = line_read_back r z rest p.0 q.0 in
    let m : n + 1 + length rs ≡ n + suc (length rs) = omega arith in
    rw (append_assoc (line_of r z) (lines_of rs vs) s)
    (line_taken h k n before (line_of r z ++ rest) r (rs ++ more) b.code
    ∙ ap₂ (λ (x : ℤ) (t : List ℕ). read_from h k (rs ++ more) (n + 1) (before ++ (x ∷ [])) t) b.value b.after
    ∙ lines_read h k rs more (n + 1) (before ++ (z ∷ [])) vs s p.1 q.1 (omega arith)
    ∙ ap₂ (λ (j : ℕ) (x : List ℤ). read_from h k more j x s) m (append_assoc before (z ∷ []) vs))

-- what stands after the first n of them
pub lines_past : (n : ℕ) (rs : List Row) (vs : List ℤ) (s : List ℕ) → all lined rs ≡ true → all_in rs vs ≡ true → n ≤ length rs →
    after_lines n (lines_of rs vs ++ s) ≡ lines_of (drop n rs) (drop n vs) ++ s
lines_past zero rs vs s l i m = refl
lines_past (suc n) [] vs s l i m = absurd (omega arith)
lines_past (suc n) (r ∷ rs) [] s l i m = never i
lines_past (suc n) (r ∷ rs) (z ∷ vs) s l i m =
    let p = both (lined r) (all lined rs) l in
    let q = both (in_row r z) (all_in rs vs) i in
    rw (append_assoc (line_of r z) (lines_of rs vs) s)
    (ap (after_lines n) (line_read_back r z (lines_of rs vs ++ s) p.0 q.0).after ∙ lines_past n rs vs s p.1 q.1 (omega arith))

-- the values of a text's lines
abbrev pub values_in : List Row → List ℕ → List ℤ
values_in [] s = []
values_in (r ∷ rs) s = line_value r s ∷ values_in rs (after_line s)

-- a text that is accepted is what is written for its values, which lie in their ranges
pub record Taken (h k : ℕ) (rs : List Row) (n : ℕ) (before : List ℤ) (s : List ℕ) : Type 0 where
  pub same : s ≡ lines_of rs (values_in rs s)
  pub within : all_in rs (values_in rs s) ≡ true
  pub end : read_from h k rs n before s ≡ read_end (filled k (settings_of (completed h (before ++ values_in rs s)))) 0

pub lines_back : (h k : ℕ) (rs : List Row) (n : ℕ) (before : List ℤ) (s : List ℕ) → (read_from h k rs n before s).code ≡ 0 → Taken h k rs n before s
lines_back h k [] n before [] e =
    record { same = refl; within = refl; end = ap (λ (x : List ℤ). read_end (filled k (settings_of (completed h x))) 0) (sym (append-nil before)) }
lines_back h k [] n before (b ∷ s) e = absurd (omega (arith, (end_yes (filled k (settings_of (completed h before))) (suc (length s)) e).none))
lines_back h k (r ∷ rs) n before s e =
    let z = first_taken h k n before s r rs e in
    let t = line_taken h k n before s r rs z in
    let w = lines_back h k rs (n + 1) (before ++ (line_value r s ∷ [])) (after_line s) (sym (ap (λ (x : Reading). x.code) t) ∙ e) in
    record {
      same = line_back r s z ∙ ap (λ (x : List ℕ). line_of r (line_value r s) ++ x) w.same;
      within = and (line_yes r s z).range w.within;
      end = t ∙ w.end ∙ ap (λ (x : List ℤ). read_end (filled k (settings_of (completed h x))) 0) (append_assoc before (line_value r s ∷ []) (values_in rs (after_line s)));
    }

pub valued : (rs : List Row) (s : List ℕ) → length (values_in rs s) ≡ length rs
valued [] s = refl
valued (r ∷ rs) s = ap suc (valued rs (after_line s))

-- the first n lines, and the others
lines_none : (rs : List Row) → lines_of rs [] ≡ []
lines_none [] = refl
lines_none (r ∷ rs) = refl

pub lines_split : (n : ℕ) (rs : List Row) (vs : List ℤ) → lines_of rs vs ≡ lines_of (take n rs) (take n vs) ++ lines_of (drop n rs) (drop n vs)
lines_split zero rs vs = refl
lines_split (suc n) [] vs = refl
lines_split (suc n) (r ∷ rs) [] = sym (lines_none (drop n rs))
lines_split (suc n) (r ∷ rs) (z ∷ vs) =
    ap (λ (x : List ℕ). line_of r z ++ x) (lines_split n rs vs) ∙ sym (append_assoc (line_of r z) (lines_of (take n rs) (take n vs)) (lines_of (drop n rs) (drop n vs)))

-- values that have no row count for nothing
pub lines_front : (rs : List Row) (vs ws : List ℤ) → length vs ≡ length rs → lines_of rs (vs ++ ws) ≡ lines_of rs vs
lines_front [] [] ws h = refl
lines_front [] (z ∷ vs) ws h = absurd (omega arith)
lines_front (r ∷ rs) [] ws h = absurd (omega arith)
lines_front (r ∷ rs) (z ∷ vs) ws h = ap (λ (x : List ℕ). line_of r z ++ x) (lines_front rs vs ws (omega arith))

-- the test of the first values
pub all_start : (rs qs : List Row) (vs ws : List ℤ) → length vs ≡ length rs → all_in (rs ++ qs) (vs ++ ws) ≡ true → all_in rs vs ≡ true
all_start rs qs vs ws h e = (both (all_in rs vs) (all_in qs ws) (sym (all_append rs qs vs ws h) ∙ e)).0

pub front_in : (rs : List Row) (vs ws : List ℤ) → length vs ≡ length rs → all_in rs (vs ++ ws) ≡ true → all_in rs vs ≡ true
front_in rs vs ws h e =
    all_start rs [] vs ws h (ap (λ (qs : List Row). all_in qs (vs ++ ws)) (append-nil rs) ∙ e)

pub lines_some : (rs : List Row) (vs : List ℤ) → length vs ≡ length rs → length rs ≤ length (lines_of rs vs)
lines_some [] vs h = omega arith
lines_some (r ∷ rs) [] h = absurd (omega arith)
lines_some (r ∷ rs) (z ∷ vs) h = simp length-append (omega (arith, lines_some rs vs (omega arith)))
