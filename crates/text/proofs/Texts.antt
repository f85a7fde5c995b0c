-- Laws of what a text is read as.
use Prim.Native.Nat.{ℕ, zero, suc, ◌+◌, ◌-◌, ◌<◌, ◌≤◌}
use mathlib.Core.Path.{◌≡◌, refl, sym, ap, ◌∙◌}
use mathlib.Core.Bool.{Bool, true, false, cond, ◌&&◌}
use mathlib.Core.List.{List, [], ◌∷◌, ◌++◌}
use mathlib.Core.Logic.{◌⊎◌, inl, inr}
use native.Mathlib.Omega.{arith}
use borrow.Author.Tests.{lt-ltb, le-ltb, ltb-true, ltb-false, eq-eqb, ne_eqb, eqb-true, eqb-false}
use lib.Dec.{ltb, eqb}
use lib.IntN.{ℤ, pos}
use lib.ListN.{length, take, drop, length-drop, drop_of_length-le}
use Rattle.whole.proofs.Truth.{never, both, chosen, by_test, zero_if, zero_then}
use Rattle.whole.specs.Words.{bytes}
use Rattle.settings.specs.declared.table.Row.{Row}
use Rattle.settings.specs.declared.Settings.{Settings}
use Rattle.settings.specs.Table.{firsts, heads, sets, short_sets, lines_for, lines, rows_of, picked, in_row, key_of}
use Rattle.settings.specs.Settings.{settings_of, completed, filled, ordered}
use Rattle.std.specs.Prelude.{Some, None}
use Rattle.word.specs.Decimal.{number_of, decimal_of}
use Rattle.word.specs.End.{end_at, feed, begins}
use Rattle.word.proofs.Words.{part_after}
use Rattle.writer.specs.Lines.{Headed, both_lines, mean_alone, neither_line, Gained, full, short}
use Rattle.text.specs.Reader.{Line, Reading, line_in, ended, word_in, formed, value_in, line_value, line_code, line_read, after_line, after_lines, refused, read_end, read_from, heads_in, sets_in, read_text}
use Rattle.writer.proofs.Rows.{form_long, form_done, headed, gained}

-- ---- one line

module _ (r : Row) (l : List ℕ) where
  pub not_begun : begins (key_of r) l ≡ false → value_in r l ≡ None
  unfolding formed
  not_begun e = rw e

  pub begun : begins (key_of r) l ≡ true → value_in r l ≡ decimal_of (word_in r l)
  unfolding formed
  begun e = rw e

not_picked : (b : Bool) (x : ℤ) → cond b (Some x) None ≡ None → b ≡ false
not_picked true x e = cc
not_picked false x e = refl

is_picked : (b : Bool) (x z : ℤ) → cond b (Some x) None ≡ Some z → (b ≡ true) × (x ≡ z)
is_picked true x z e = (refl, cc)
is_picked false x z e = (cc, cc)

no_second : (b : Bool) → (b && false) ≡ false
no_second true = refl
no_second false = refl

module _ (r : Row) (s : List ℕ) where
  read_as : (k : ℕ) → line_code r s ≡ k → line_read r s ≡ record { code = k; value = cond (eqb k 0) (line_value r s) (pos 0) }
  read_as k e = ap (λ (n : ℕ). record { code = n; value = cond (eqb n 0) (line_value r s) (pos 0) }) e

  pub line_wrong : value_in r (line_in s) ≡ None → line_read r s ≡ record { code = 14; value = pos 0 }
  unfolding line_code
  line_wrong v = read_as 14 (rw (not_picked (formed r (line_in s)) (number_of (word_in r (line_in s))) v, no_second (ended s)))

  pub line_stops : ended s ≡ false → line_read r s ≡ record { code = 14; value = pos 0 }
  unfolding line_code
  line_stops e = read_as 14 (rw e)

  pub line_out : (z : ℤ) → value_in r (line_in s) ≡ Some z → ended s ≡ true → in_row r z ≡ false → line_read r s ≡ record { code = 15; value = pos 0 }
  unfolding line_code line_value
  line_out z v e i =
      let p = is_picked (formed r (line_in s)) (number_of (word_in r (line_in s))) z v in
      read_as 15 (rw (e, p.0, p.1, i))

  pub line_good : (z : ℤ) → value_in r (line_in s) ≡ Some z → ended s ≡ true → in_row r z ≡ true → line_read r s ≡ record { code = 0; value = z }
  unfolding line_code line_value
  line_good z v e i =
      let p = is_picked (formed r (line_in s)) (number_of (word_in r (line_in s))) z v in
      read_as 0 (rw (e, p.0, p.1, i)) ∙ ap (λ (x : ℤ). record { code = 0; value = x }) p.1

-- a line that is accepted has its value
pub value_taken : (r : Row) (s : List ℕ) (x : Line) → x ≡ line_read r s → line_code r s ≡ 0 → x.value ≡ line_value r s
value_taken r s x e z = ap (λ (l : Line). l.value) e ∙ rw (eq-eqb (line_code r s) 0 z)

-- a line that is accepted
pub record Accepted (r : Row) (s : List ℕ) : Type 0 where
  pub closed : ended s ≡ true
  pub form : formed r (line_in s) ≡ true
  pub range : in_row r (line_value r s) ≡ true

pub line_yes : (r : Row) (s : List ℕ) → line_code r s ≡ 0 → Accepted r s
unfolding line_code
line_yes r s e =
    let f = zero_if (ended s && formed r (line_in s)) (cond (in_row r (line_value r s)) 0 15) 13 e in
    let b = both (ended s) (formed r (line_in s)) f.0 in
    record { closed = b.0; form = b.1; range = zero_then (in_row r (line_value r s)) 14 f.1 }

pub feed_there : (s : List ℕ) → ended s ≡ true → end_at feed s < length s
unfolding ended
feed_there s e = ltb-true (end_at feed s) (length s) e

-- the part from behind a line feed
pub part_line : (s : List ℕ) (end : ℕ) → end ≡ end_at feed s → take (length s - (end + 1)) (drop (end + 1) s) ≡ after_line s
unfolding after_line
part_line s end e = part_after feed s end e

pub after_shorter : (s : List ℕ) → length (after_line s) ≤ length s
unfolding after_line
after_shorter s = rw length-drop (omega arith)

-- ---- several lines

after_none : (n : ℕ) → after_lines n [] ≡ []
unfolding after_line
after_none zero = refl
after_none (suc n) = after_none n

-- nothing stands after a line that has no line feed
pub no_feed : (n : ℕ) (s : List ℕ) → length s ≤ end_at feed s → after_lines (suc n) s ≡ []
unfolding after_line
no_feed n s h = ap (after_lines n) (drop_of_length-le s {i = end_at feed s + 1} (omega arith)) ∙ after_none n

pub one_line : (n i : ℕ) (s : List ℕ) → i < n → after_lines (n - i) s ≡ after_lines (n - (i + 1)) (after_line s)
one_line n i s h = let e : n - i ≡ suc (n - (i + 1)) = omega arith in rw e

-- which rows before the gain sets a text has
module _ (s : List ℕ) where
  -- whether the line after the first i rows is that of `kp0`
  abbrev pub kp0_after : ℕ → Bool
  kp0_after i = begins (bytes "kp0") (after_lines i s)

  pub has_neither : kp0_after firsts ≡ true → heads_in s ≡ firsts
  unfolding heads_in
  has_neither e = rw e

  pub has_mean_alone : kp0_after firsts ≡ false → kp0_after (firsts + 1) ≡ true → heads_in s ≡ firsts + 1
  unfolding heads_in
  has_mean_alone e f = rw (e, f)

  pub has_both : kp0_after firsts ≡ false → kp0_after (firsts + 1) ≡ false → heads_in s ≡ heads
  unfolding heads_in
  has_both e f = rw (e, f)

  -- what holds of each form that the lines after rate and mean can tell holds of the one that they tell
  told : (P : ℕ → Type 0) → (kp0_after firsts ≡ true → P firsts) → (kp0_after firsts ≡ false → kp0_after (firsts + 1) ≡ true → P (firsts + 1)) →
      (kp0_after firsts ≡ false → kp0_after (firsts + 1) ≡ false → P heads) → P (heads_in s)
  unfolding heads_in
  told P neither alone both = chosen P (kp0_after firsts) neither (λ e. chosen P (kp0_after (firsts + 1)) (alone e) (both e))

  pub heads_in_lem : Headed (heads_in s)
  heads_in_lem = told Headed (λ _. neither_line) (λ _ _. mean_alone) (λ _ _. both_lines)

  -- after the rows that it has stands `kp0`, where some are left out
  pub kp0_there : heads_in s < heads → kp0_after (heads_in s) ≡ true
  kp0_there = told (λ (h : ℕ). h < heads → kp0_after h ≡ true) (λ e _. e) (λ _ e _. e) (λ _ _ l. absurd (omega arith))

  -- and not before that
  kp0_not_yet : (i : ℕ) → Headed i → i < heads_in s → kp0_after i ≡ false
  kp0_not_yet i neither_line = told (λ (h : ℕ). firsts < h → kp0_after firsts ≡ false) (λ _ l. absurd (omega arith)) (λ e _ _. e) (λ e _ _. e)
  kp0_not_yet i mean_alone = told (λ (h : ℕ). firsts + 1 < h → kp0_after (firsts + 1) ≡ false) (λ _ l. absurd (omega arith)) (λ _ _ l. absurd (omega arith)) (λ _ e _. e)
  kp0_not_yet i both_lines = λ l. absurd (omega (arith, headed (heads_in s) heads_in_lem))

  pub kp0_first : (i : ℕ) → Headed i → kp0_after i ≡ true → heads_in s ≤ i
  kp0_first i a e = by_test (ltb i (heads_in s)) (λ t. never (sym (kp0_not_yet i a (ltb-true i (heads_in s) t)) ∙ e)) (λ t. ltb-false i (heads_in s) t)

-- and how many gain sets
module _ (h : ℕ) (s : List ℕ) where
  pub goes_on : 0 < length (after_lines (lines_for h short_sets) s) → sets_in h s ≡ sets
  unfolding sets_in
  goes_on l = rw (lt-ltb 0 (length (after_lines (lines_for h short_sets) s)) l)

  pub ends_short : length (after_lines (lines_for h short_sets) s) ≤ 0 → sets_in h s ≡ short_sets
  unfolding sets_in
  ends_short l = rw (le-ltb 0 (length (after_lines (lines_for h short_sets) s)) l)

  pub sets_in_lem : Gained (sets_in h s)
  unfolding sets_in
  sets_in_lem = chosen Gained (ltb 0 (length (after_lines (lines_for h short_sets) s))) (λ _. full) (λ _. short)

-- ---- after the last line

module _ (x : Settings) (left : ℕ) where
  pub bytes_left : ltb 0 left ≡ true → read_end x left ≡ refused 17 0
  unfolding read_end
  bytes_left h = rw h

  pub not_ordered : ltb 0 left ≡ false → ordered x ≡ false → read_end x left ≡ refused 16 0
  unfolding read_end
  not_ordered h e = rw (h, e)

  pub end_taken : ltb 0 left ≡ false → ordered x ≡ true → read_end x left ≡ record { code = 0; line = 0; settings = x }
  unfolding read_end
  end_taken h e = rw (h, e)

-- after an accepted text no byte is left, and the settings are in order
pub record Ended (x : Settings) (left : ℕ) : Type 0 where
  pub none : left ≡ 0
  pub order : ordered x ≡ true

pub end_yes : (x : Settings) (left : ℕ) → (read_end x left).code ≡ 0 → Ended x left
end_yes x left e = by_test (ltb 0 left)
    (λ h. absurd (let q : 17 ≡ 0 = sym (ap (λ (d : Reading). d.code) (bytes_left x left h)) ∙ e in omega arith))
    (λ h. let z = ltb-false 0 left h in by_test (ordered x) (λ o. record { none = omega arith; order = o })
    (λ o. absurd (let q : 16 ≡ 0 = sym (ap (λ (d : Reading). d.code) (not_ordered x left h o)) ∙ e in omega arith)))

-- ---- the text

pub read_with : (h k : ℕ) (text : List ℕ) → heads_in text ≡ h → sets_in h text ≡ k → read_text text ≡ read_from h k (picked h (rows_of k)) 1 [] text
unfolding read_text
read_with h k text e f =
    ap (λ (x : ℕ). read_from x (sets_in x text) (picked x (rows_of (sets_in x text))) 1 [] text) e
    ∙ ap (λ (x : ℕ). read_from h x (picked h (rows_of x)) 1 [] text) f

-- one that has the lines of h rows before the gain sets, and of k sets
module _ (h k n : ℕ) (vs : List ℤ) (s : List ℕ) where
  pub lines_done : (i : ℕ) → h ≤ heads → lines_for h k ≤ i →
      read_from h k (drop i (picked h (rows_of k))) n vs s ≡ read_end (filled k (settings_of (completed h vs))) (length s)
  lines_done i m l = ap (λ (rs : List Row). read_from h k rs n vs s) (form_done h k m i l)

  module _ (r : Row) (rs : List Row) where
    pub line_refused : (line_code r s ≡ 0 → ⊥) → read_from h k (r ∷ rs) n vs s ≡ refused (line_code r s) n
    line_refused f = rw (ne_eqb (line_code r s) 0 f)

    pub line_taken : line_code r s ≡ 0 → read_from h k (r ∷ rs) n vs s ≡ read_from h k rs (n + 1) (vs ++ (line_value r s ∷ [])) (after_line s)
    line_taken e = rw (eq-eqb (line_code r s) 0 e)

    -- where the text is accepted, so is its first line
    pub first_taken : (read_from h k (r ∷ rs) n vs s).code ≡ 0 → line_code r s ≡ 0
    first_taken e = by_test (eqb (line_code r s) 0) (λ t. eqb-true (line_code r s) 0 t)
        (λ t. sym (ap (λ (x : Reading). x.code) (line_refused (eqb-false (line_code r s) 0 t))) ∙ e)

-- ---- every answer that there can be

line_codes : (r : Row) (s : List ℕ) → (line_code r s ≡ 0 → ⊥) → (line_code r s ≡ 14) ⊎ (line_code r s ≡ 15)
unfolding line_code
line_codes r s =
    chosen (λ (k : ℕ). (k ≡ 0 → ⊥) → (k ≡ 14) ⊎ (k ≡ 15)) (ended s && formed r (line_in s))
    (λ _. chosen (λ (k : ℕ). (k ≡ 0 → ⊥) → (k ≡ 14) ⊎ (k ≡ 15)) (in_row r (line_value r s)) (λ _ f. absurd (f refl)) (λ _ f. inr refl))
    (λ _ f. inl refl)

-- what holds of each kind of answer holds of what is read
module _ (P : Reading → Type 0)
    (done : (s : Settings) → P (record { code = 0; line = 0; settings = s }))
    (at_line : (code n : ℕ) → (code ≡ 14) ⊎ (code ≡ 15) → 1 ≤ n → n ≤ lines → P (refused code n))
    (at_end : (code : ℕ) → (code ≡ 17) ⊎ (code ≡ 16) → P (refused code 0)) where
  lines_answer : (h k : ℕ) (rs : List Row) (n : ℕ) (vs : List ℤ) (s : List ℕ) → 1 ≤ n → n + length rs ≤ lines + 1 → P (read_from h k rs n vs s)
  unfolding read_end
  lines_answer h k [] n vs s l m =
      let x = filled k (settings_of (completed h vs)) in
      chosen P (ltb 0 (length s)) (λ _. at_end 17 (inl refl)) (λ _. chosen P (ordered x) (λ _. done x) (λ _. at_end 16 (inr refl)))
  lines_answer h k (r ∷ rs) n vs s l m =
      chosen P (eqb (line_code r s) 0)
      (λ _. lines_answer h k rs (n + 1) (vs ++ (line_value r s ∷ [])) (after_line s) (omega arith) (omega arith))
      (λ f. at_line (line_code r s) n (line_codes r s (eqb-false (line_code r s) 0 f)) l (omega arith))

  pub text_answer : (s : List ℕ) → P (read_text s)
  unfolding read_text
  text_answer s =
      let h = heads_in s in
      let k = sets_in h s in
      let m = (headed h (heads_in_lem s)).1 in
      lines_answer h k (picked h (rows_of k)) 1 [] s (omega arith) (omega (arith, form_long h k m, m, (gained k (sets_in_lem h s)).1))
