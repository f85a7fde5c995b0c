-- The text in its forms: settings written are read back the same, a text read is written back, and where and how every other
-- text is refused.
use Prim.Native.Nat.{ℕ, ◌+◌, ◌-◌, ◌*◌, ◌<◌, ◌≤◌}
use mathlib.Core.Path.{◌≡◌, refl, sym, ap, ap₂, subst, ◌∙◌}
use mathlib.Core.Bool.{Bool, true, false, cond}
use mathlib.Core.List.{List, [], ◌∷◌, ◌++◌, append-nil}
use native.Mathlib.Omega.{arith}
use borrow.Author.Tests.{lt-ltb, ltb-true, ltb-false, eq-eqb, ne_eqb, eqb-true, eqb-false}
use lib.Dec.{ltb, eqb}
use lib.IntN.{ℤ, pos}
use lib.ListN.{length, get_or, take, drop, replicate, length-append, length-drop, take-append-drop, drop_of_length-le}
use lib.Seq.{take-append-le, length-take-le, take_all, take-take, take_at, drop-append-le, drop-drop, get_or-take}
use Rattle.whole.specs.Words.{bytes}
use Rattle.whole.proofs.Truth.{never, chosen, by_test}
use Rattle.whole.proofs.Lists.{next}
use Rattle.settings.specs.declared.table.Row.{Row}
use Rattle.settings.specs.declared.Settings.{Settings}
use Rattle.settings.specs.Table.{farthest, later_rows, each, firsts, heads, keys, sets, short_sets, lines_for, rows_of, rows, picked, no_row}
use Rattle.settings.specs.Settings.{gains_at, gains_from, gain_values, all_in, in_table, settings_refusal, values_of, settings_of, absent, completed, filled}
use Rattle.settings.proofs.Lists.{all, all_take}
use Rattle.settings.proofs.Rows.{rows_long, rows_parts, values_long}
use Rattle.settings.proofs.Values.{values_filled, settings_values, filled_all, filled_long, filled_at, filled_twice}
use Rattle.settings.proofs.Ranges.{rows_front, filled_in}
use Rattle.settings.proofs.Forms.{picked_long, take_picked, drop_picked, picked_append, completed_long, completed_append, completed_in, picked_completed, picked_in, filled_picked}
use Rattle.word.specs.Decimal.{shown}
use Rattle.word.specs.End.{begins}
use Rattle.writer.specs.Lines.{lines_of, Headed, both_lines, mean_alone, neither_line, Gained, full, short, text_for, text_of, longest_for, longest_text}
use Rattle.text.specs.Reader.{Reading, ended, line_code, after_lines, refused, read_end, read_from, heads_in, sets_in, read_text}
use Rattle.writer.proofs.Rows.{lined, form_long, form_lined, form_next, form_parts, form_at, row_at, text_whole, headed, gained}
use Rattle.writer.proofs.Writes.{sound, sound_long}
use Rattle.text.proofs.Texts.{kp0_after, heads_in_lem, kp0_there, kp0_first, goes_on, ends_short, sets_in_lem, read_with, end_yes, end_taken, lines_done, line_refused}
use Rattle.text.proofs.Trip.{lines_read, lines_past, values_in, lines_back, valued, lines_split, lines_front, front_in, lines_some}

-- ---- the first lines of a text

-- the first j rows are the same with k gain sets as with all
rows_take : (h k j : ℕ) → h ≤ heads → k ≤ sets → j ≤ lines_for h k → take j (picked h (rows_of k)) ≡ take j (picked h rows)
rows_take h k j a m l =
    sym (ap (take j) (form_parts h k a m) ∙ take-append-le j (picked h (rows_of k)) _ (omega (arith, form_long h k a)))

-- and those that every text has are the same in every text
rows_first : (h j : ℕ) → h ≤ heads → j ≤ h → take j (picked h rows) ≡ take j rows
rows_first h j m l =
    let n = length-take-le h rows (omega (arith, rows_long sets)) in
    take-append-le j (take h rows) (drop heads rows) (omega arith) ∙ take-take j h rows l

row_first : (h j : ℕ) → h ≤ heads → j < h → get_or (picked h rows) j no_row ≡ get_or rows j no_row
row_first h j m l = row_at h j m ∙ rw (lt-ltb j h l)

-- the line after d rows begins with `kp0` where d is how many stand before the gain sets
next_line : (h d : ℕ) → Headed h → Headed d → (rs : List Row) (z : ℤ) (vs : List ℤ) (s : List ℕ) →
    begins (bytes "kp0") (lines_of (get_or (picked h rows) d no_row ∷ rs) (z ∷ vs) ++ s) ≡ eqb h d
unfolding rows_of shown
next_line h d both_lines both_lines rs z vs s = refl
next_line h d both_lines mean_alone rs z vs s = refl
next_line h d both_lines neither_line rs z vs s = refl
next_line h d mean_alone both_lines rs z vs s = refl
next_line h d mean_alone mean_alone rs z vs s = refl
next_line h d mean_alone neither_line rs z vs s = refl
next_line h d neither_line both_lines rs z vs s = refl
next_line h d neither_line mean_alone rs z vs s = refl
next_line h d neither_line neither_line rs z vs s = refl

-- right lines of the first j rows, with what follows
module _ (h j : ℕ) (vs : List ℤ) (s : List ℕ) (a : Headed h) (l : j ≤ lines_for h sets) (e : length vs ≡ j) (i : all_in (take j (picked h rows)) vs ≡ true) where
  front_long : length (take j (picked h rows)) ≡ j
  front_long = length-take-le j (picked h rows) (omega (arith, form_long h sets (headed h a).1))

  front_lined : all lined (take j (picked h rows)) ≡ true
  front_lined = all_take lined (picked h rows) j (form_lined h sets (headed h a).1 (omega arith))

  -- they are read as what is left, from line j + 1 on
  first_lines_lem : (k : ℕ) → k ≤ sets → j ≤ lines_for h k →
      read_from h k (picked h (rows_of k)) 1 [] (lines_of (take j (picked h rows)) vs ++ s) ≡ read_from h k (drop j (picked h (rows_of k))) (j + 1) vs s
  first_lines_lem k m b =
      let rs = take j (picked h rows) in
      let more = drop j (picked h (rows_of k)) in
      let n : 1 + length rs ≡ j + 1 = omega (arith, front_long) in
      ap (λ (qs : List Row). read_from h k qs 1 [] (lines_of rs vs ++ s))
      (sym (take-append-drop j (picked h (rows_of k))) ∙ ap (λ (qs : List Row). qs ++ more) (rows_take h k j (headed h a).1 m b))
      ∙ lines_read h k rs more 1 [] vs s front_lined i (e ∙ sym front_long)
      ∙ ap (λ (x : ℕ). read_from h k more x vs s) n

  -- what stands after n of them
  past : (n : ℕ) → n ≤ j → after_lines n (lines_of (take j (picked h rows)) vs ++ s) ≡ lines_of (drop n (take j (picked h rows))) (drop n vs) ++ s
  past n b = lines_past n (take j (picked h rows)) vs s front_lined i (omega (arith, front_long))

  -- where bytes stand after the last line of set 3, the text has the lines of all gain sets
  on_after : lines_for h short_sets ≤ j → 0 < j - lines_for h short_sets + length s → sets_in h (lines_of (take j (picked h rows)) vs ++ s) ≡ sets
  on_after b some =
      let m = lines_for h short_sets in
      let qs = drop m (take j (picked h rows)) in
      let p : length (drop m vs) ≡ length qs = simp length-drop (omega (arith, front_long)) in
      let q : length qs ≡ j - m = simp length-drop (omega (arith, front_long)) in
      let n : 0 < length (lines_of qs (drop m vs) ++ s) = simp length-append (omega (arith, lines_some qs (drop m vs) p, q)) in
      goes_on h (lines_of (take j (picked h rows)) vs ++ s) (rw (past m b) n)

  -- each line after rate tells by `kp0` whether the gain sets begin there; the one that is not right is to tell it too
  module _ (f : firsts ≤ j → j < heads → j ≤ h → begins (bytes "kp0") s ≡ eqb h j) where
    tells : (d : ℕ) → Headed d → d < heads → d ≤ h → d ≤ j → kp0_after (lines_of (take j (picked h rows)) vs ++ s) d ≡ eqb h d
    tells d b m k g = ap (begins (bytes "kp0")) (past d g) ∙ by_test (eqb j d) here there
      where
        here : eqb j d ≡ true → begins (bytes "kp0") (lines_of (drop d (take j (picked h rows))) (drop d vs) ++ s) ≡ eqb h d
        here t =
            let p = eqb-true j d t in
            let q : drop d (take j (picked h rows)) ≡ [] = drop_of_length-le (take j (picked h rows)) {i = d} (omega (arith, front_long)) in
            ap (λ (qs : List Row). begins (bytes "kp0") (lines_of qs (drop d vs) ++ s)) q ∙ f (omega (arith, headed d b)) (omega arith) (omega arith) ∙ ap (eqb h) p

        there : eqb j d ≡ false → begins (bytes "kp0") (lines_of (drop d (take j (picked h rows))) (drop d vs) ++ s) ≡ eqb h d
        there t =
            let p = eqb-false j d t in
            let n = next (take j (picked h rows)) d no_row (omega (arith, front_long)) in
            let r = get_or-take j (picked h rows) d no_row (omega arith) in
            let v = next vs d (pos 0) (omega arith) in
            let more = drop (d + 1) (take j (picked h rows)) in
            ap₂ (λ (qs : List Row) (ws : List ℤ). begins (bytes "kp0") (lines_of qs ws ++ s)) (n ∙ ap (λ (x : Row). x ∷ more) r) v
            ∙ next_line h d a b more (get_or vs d (pos 0)) (drop (d + 1) vs) s

    -- where the text is found to have other rows than h, line j + 1 stands before the gain sets in both forms
    other_form : eqb (heads_in (lines_of (take j (picked h rows)) vs ++ s)) h ≡ false → (j < h) × (j < heads_in (lines_of (take j (picked h rows)) vs ++ s))
    other_form t =
        let p = eqb-false d h t in
        by_test (ltb d h)
        (λ u. let m = fewer (ltb-true d h u) in (omega (arith, ltb-true d h u), m))
        (λ u. let k : h < d = omega (arith, ltb-false d h u) in let m = more k in (m, omega arith))
      where
        text : List ℕ
        text = lines_of (take j (picked h rows)) vs ++ s

        d : ℕ
        d = heads_in text

        fewer : d < h → j < d
        fewer k =
            let m = (headed h a).1 in
            by_test (ltb j d) (ltb-true j d)
            (λ u. never (sym (ne_eqb h d (λ z. omega arith)) ∙ sym (tells d (heads_in_lem text) (omega arith) (omega arith) (ltb-false j d u)) ∙ kp0_there text (omega arith)))

        more : h < d → j < h
        more k =
            let m = (headed d (heads_in_lem text)).1 in
            by_test (ltb j h) (ltb-true j h)
            (λ u. absurd (omega (arith, kp0_first text h a (tells h a (omega arith) (omega arith) (ltb-false j h u) ∙ eq-eqb h h refl))))

    heads_after : h ≤ j → heads_in (lines_of (take j (picked h rows)) vs ++ s) ≡ h
    heads_after b =
        let d = heads_in (lines_of (take j (picked h rows)) vs ++ s) in
        by_test (eqb d h) (eqb-true d h) (λ t. absurd (omega (arith, other_form t)))

  -- ---- a line that is not right: the text is refused there

  -- after the last line of set 3 it may end
  wrong_line : heads_in (lines_of (take j (picked h rows)) vs ++ s) ≡ h → j < lines_for h sets → (j ≡ lines_for h short_sets → 0 < length s) →
      let r = get_or (picked h rows) j no_row in
      (line_code r s ≡ 0 → ⊥) → read_text (lines_of (take j (picked h rows)) vs ++ s) ≡ refused (line_code r s) (j + 1)
  wrong_line d b more f =
      let text = lines_of (take j (picked h rows)) vs ++ s in
      let k = sets_in h text in
      let m = gained k (sets_in_lem h text) in
      let n = (headed h a).1 in
      let c : j < lines_for h k = in_form k refl in
      let q = form_at h k n j m.1 c in
      read_with h k text d refl
      ∙ first_lines_lem k m.1 (omega arith)
      ∙ ap (λ (rs : List Row). read_from h k rs (j + 1) vs s) (form_next h k n j c)
      ∙ line_refused h k (j + 1) vs s (get_or (picked h (rows_of k)) j no_row) (drop (j + 1) (picked h (rows_of k))) (λ z. f (ap (λ (r : Row). line_code r s) (sym q) ∙ z))
      ∙ ap (λ (r : Row). refused (line_code r s) (j + 1)) q
    where
      some : lines_for h short_sets ≤ j → 0 < j - lines_for h short_sets + length s
      some c = by_test (eqb j (lines_for h short_sets))
          (λ t. omega (arith, more (eqb-true j (lines_for h short_sets) t)))
          (λ t. omega (arith, c, eqb-false j (lines_for h short_sets) t))

      -- however many gain sets the text has, it has line j + 1
      in_form : (k : ℕ) → sets_in h (lines_of (take j (picked h rows)) vs ++ s) ≡ k → j < lines_for h k
      in_form k g = by_test (ltb j (lines_for h short_sets))
          (λ t. omega (arith, ltb-true j (lines_for h short_sets) t, g, (gained _ (sets_in_lem h (lines_of (take j (picked h rows)) vs ++ s))).0))
          (λ t. let c = ltb-false j (lines_for h short_sets) t in omega (arith, g, on_after c (some c)))

-- the line after rate, and that after mean, is the first of the gain sets where it begins with `kp0`; the lines before are the same
-- in every text
pub first_wrong : (h j : ℕ) (vs : List ℤ) (s : List ℕ) → Headed h → j < lines_for h sets → length vs ≡ j → all_in (take j (picked h rows)) vs ≡ true →
    (firsts ≤ j → j < heads → j ≤ h → begins (bytes "kp0") s ≡ eqb h j) → (j ≡ lines_for h short_sets → 0 < length s) →
    let r = get_or (picked h rows) j no_row in
    (line_code r s ≡ 0 → ⊥) → read_text (lines_of (take j (picked h rows)) vs ++ s) ≡ refused (line_code r s) (j + 1)
first_wrong h j vs s a l e i form more f = by_test (eqb (heads_in (lines_of (take j (picked h rows)) vs ++ s)) h) same other
  where
    same : eqb (heads_in (lines_of (take j (picked h rows)) vs ++ s)) h ≡ true → read_text (lines_of (take j (picked h rows)) vs ++ s) ≡ refused (line_code (get_or (picked h rows) j no_row) s) (j + 1)
    same t = wrong_line h j vs s a (omega arith) e i (eqb-true _ h t) l more f

    other : eqb (heads_in (lines_of (take j (picked h rows)) vs ++ s)) h ≡ false → read_text (lines_of (take j (picked h rows)) vs ++ s) ≡ refused (line_code (get_or (picked h rows) j no_row) s) (j + 1)
    other t =
        let b = other_form h j vs s a (omega arith) e i form t in
        let text = lines_of (take j (picked h rows)) vs ++ s in
        let d = heads_in text in
        let c = heads_in_lem text in
        let n = headed h a in
        let m = headed d c in
        let p : take j (picked h rows) ≡ take j (picked d rows) = rows_first h j n.1 (omega arith) ∙ sym (rows_first d j m.1 (omega arith)) in
        let q : get_or (picked d rows) j no_row ≡ get_or (picked h rows) j no_row = row_first d j m.1 (omega arith) ∙ sym (row_first h j n.1 (omega arith)) in
        let w = ap (λ (rs : List Row). lines_of rs vs ++ s) p in
        ap read_text w
        ∙ wrong_line d j vs s c (omega arith) e (ap (λ (rs : List Row). all_in rs vs) (sym p) ∙ i) (ap heads_in (sym w)) (omega arith) (λ z. absurd (omega arith))
        (λ z. f (ap (λ (r : Row). line_code r s) (sym q) ∙ z))
        ∙ ap (λ (r : Row). refused (line_code r s) (j + 1)) q

-- "Text that stops early is 14 at the line where it stops"
pub text_stops : (h j : ℕ) (vs : List ℤ) → Headed h → j < lines_for h sets → (j ≡ lines_for h short_sets → ⊥) → length vs ≡ j → all_in (take j (picked h rows)) vs ≡ true →
    read_text (lines_of (take j (picked h rows)) vs) ≡ refused 14 (j + 1)
unfolding line_code ended
text_stops h j vs a l f e i = by_test (ltb h j)
    (λ t. let b = ltb-true h j t in
    ap read_text (sym (append-nil (lines_of (take j (picked h rows)) vs)))
    ∙ first_wrong h j vs [] a l e i (λ _ _ k. absurd (omega arith)) (λ z. absurd (f z)) (λ z. omega arith))
    (λ t. let b = ltb-false h j t in
    let n = headed h a in
    let p : take j (picked h rows) ≡ take j (picked heads rows) = rows_first h j n.1 b ∙ sym (rows_first heads j (omega arith) (omega arith)) in
    ap (λ (rs : List Row). read_text (lines_of rs vs)) p
    ∙ ap read_text (sym (append-nil (lines_of (take j (picked heads rows)) vs)))
    ∙ first_wrong heads j vs [] both_lines (omega arith) e (ap (λ (rs : List Row). all_in rs vs) (sym p) ∙ i) (λ _ k _. sym (ne_eqb heads j (λ z. omega arith))) (λ z. absurd (omega arith))
    (λ z. omega arith))

-- ---- all lines right: what is left decides

-- with four gain sets nothing may be left
pub all_right : (h n : ℕ) (vs : List ℤ) (s : List ℕ) → Headed h → Gained n → (n ≡ short_sets → s ≡ []) → length vs ≡ lines_for h n → all_in (picked h (rows_of n)) vs ≡ true →
    read_text (lines_of (picked h (rows_of n)) vs ++ s) ≡ read_end (filled n (settings_of (completed h vs))) (length s)
all_right h n vs s a b none e i =
    let j = lines_for h n in
    let m = (headed h a).1 in
    let k = gained n b in
    let l : lines_for h n ≤ lines_for h sets = omega arith in
    let p : take j (picked h rows) ≡ picked h (rows_of n) = sym (rows_take h n j m k.1 (omega arith)) ∙ take_all j (picked h (rows_of n)) (omega (arith, form_long h n m)) in
    let w : all_in (take j (picked h rows)) vs ≡ true = ap (λ (rs : List Row). all_in rs vs) p ∙ i in
    let text = lines_of (take j (picked h rows)) vs ++ s in
    ap (λ (rs : List Row). read_text (lines_of rs vs ++ s)) (sym p)
    ∙ read_with h n text (heads_after h j vs s a l e w (λ _ m _. absurd (omega (arith, headed h a, gained n b))) (omega arith)) (ends n b none e l w)
    ∙ first_lines_lem h j vs s a l e w n k.1 (omega arith)
    ∙ lines_done h n (j + 1) vs s j m (omega arith)
  where
    ends : (n : ℕ) → Gained n → (n ≡ short_sets → s ≡ []) → length vs ≡ lines_for h n → lines_for h n ≤ lines_for h sets → all_in (take (lines_for h n) (picked h rows)) vs ≡ true →
        sets_in h (lines_of (take (lines_for h n) (picked h rows)) vs ++ s) ≡ n
    ends n full none e l w = on_after h (lines_for h sets) vs s a l e w (omega arith) (omega arith)
    ends n short none e l w =
        let j = lines_for h short_sets in
        let q : drop j (take j (picked h rows)) ≡ [] = drop_of_length-le (take j (picked h rows)) {i = j} (omega (arith, front_long h j vs s a l e w)) in
        let x = past h j vs s a l e w j (omega arith) ∙ ap (λ (rs : List Row). lines_of rs (drop j vs) ++ s) q ∙ none refl in
        ends_short h (lines_of (take j (picked h rows)) vs ++ s) (omega (arith, ap length x))

-- ---- settings that nothing is wrong with

-- settings that a text of this form can have: those of the lines that it leaves out are the ones that stand for them
pub record Said (h n : ℕ) (s : Settings) : Type 0 where
  pub sixteen : length s.gains ≡ sets
  pub right : settings_refusal s ≡ 0
  pub head : completed h (picked h (values_of s)) ≡ values_of s
  pub gain : filled n s ≡ s

-- their text is read as these settings
pub form_read : (h n : ℕ) (s : Settings) → Headed h → Gained n → Said h n s → read_text (text_for h n s) ≡ record { code = 0; line = 0; settings = s }
unfolding text_for in_table
form_read h n s a b t =
    let o = sound s t.right in
    let l = headed h a in
    let k = gained n b in
    let rs = picked h (rows_of n) in
    let us = picked h (values_of s) in
    let vs = take (lines_for h n) us in
    let ws = drop (lines_for h n) us in
    let c = values_long s t.sixteen in
    let d : length us ≡ lines_for h sets = picked_long h l.1 (values_of s) (omega arith) ∙ omega (arith, c, l) in
    let e : length vs ≡ lines_for h n = length-take-le (lines_for h n) us (omega arith) in
    let p = take-append-drop (lines_for h n) us in
    let m = e ∙ sym (form_long h n l.1) in
    let w = picked_in h l.0 l.1 (rows_of n) (values_of s) (omega (arith, rows_long n)) (omega arith) (rows_front n (values_of s) k.1 o.within) in
    let i : all_in rs vs ≡ true = front_in rs vs ws m (ap (all_in rs) p ∙ w) in
    ap read_text (ap (lines_of rs) (sym p) ∙ lines_front rs vs ws m ∙ sym (append-nil (lines_of rs vs)))
    ∙ all_right h n vs [] a b (λ _. refl) e i
    ∙ ap (λ (x : Settings). read_end x 0)
    (filled_picked h l.0 l.1 (values_of s) c t.head n (omega arith) k.1 ∙ ap (filled n) (settings_values s t.sixteen) ∙ t.gain)
    ∙ end_taken s 0 refl o.order

-- ---- a text that is accepted

-- it is that of the settings it is read as
pub record Again (h n : ℕ) (text : List ℕ) (s : Settings) : Type 0 where
  pub said : Said h n s
  pub same : text ≡ text_for h n s

pub text_back : (text : List ℕ) → (read_text text).code ≡ 0 → Again (heads_in text) (sets_in (heads_in text) text) text (read_text text).settings
unfolding read_text text_for
text_back text e =
    let h = heads_in text in
    let k = sets_in h text in
    let l = headed h (heads_in_lem text) in
    let few = gained k (sets_in_lem h text) in
    let rs = picked h (rows_of k) in
    let t = lines_back h k rs 1 [] text e in
    let vs = values_in rs text in
    let c : length vs ≡ lines_for h k = valued rs text ∙ form_long h k l.1 in
    let ws = completed h vs in
    let d : h ≤ length vs = omega arith in
    let n : length ws ≡ lines_for heads k = completed_long h l.0 l.1 vs d ∙ omega (arith, c, l) in
    let x = filled k (settings_of ws) in
    let o = (end_yes x 0 (sym (ap (λ (y : Reading). y.code) t.end) ∙ e)).order in
    let v = values_filled k ws few.1 n in
    let more = each gain_values (replicate (sets - k) (gains_from heads ws)) in
    let q : picked h (values_of x) ≡ vs ++ more =
    ap (picked h) v ∙ picked_append h l.1 ws (omega arith) more ∙ ap (λ (us : List ℤ). us ++ more) (picked_completed h l.0 l.1 vs d) in
    let a : Again h k text x =
    record {
      said = record {
        sixteen = filled_long k (settings_of ws) few.1 refl;
        right = rw (filled_in k ws (omega (arith, few.0)) few.1 n (completed_in h l.0 l.1 k vs d t.within), o);
        head = ap (completed h) q ∙ completed_append h l.0 l.1 vs d more ∙ sym v;
        gain = filled_twice k (settings_of ws) few.1 refl (omega (arith, few.0));
      };
      same = t.same ∙ sym (ap (lines_of rs) q ∙ lines_front rs vs more (c ∙ sym (form_long h k l.1)));
    } in
    subst (Again h k text) (sym (ap (λ (y : Reading). y.settings) (t.end ∙ end_taken x 0 refl o))) a

-- with the form known
pub form_back : (h n : ℕ) (text : List ℕ) → (read_text text).code ≡ 0 → heads_in text ≡ h → sets_in h text ≡ n → Again h n text (read_text text).settings
form_back h n text e p q =
    let s = (read_text text).settings in
    subst (λ (k : ℕ). Again h k text s) q (subst (λ (k : ℕ). Again k (sets_in k text) text s) p (text_back text e))

pub ends_here : (h : ℕ) (text : List ℕ) → after_lines (lines_for h short_sets) text ≡ [] → sets_in h text ≡ short_sets
ends_here h text end = ends_short h text (omega (arith, ap length end))

-- any set that it has no lines of is set 0
pub missing_sets : {h n : ℕ} {text : List ℕ} (s : Settings) → Gained n → Again h n text s → (k : ℕ) → n ≤ k → k < sets → gains_at s.gains k ≡ gains_at s.gains 0
missing_sets {h} {n} s b t k l m =
    ap (λ (x : Settings). gains_at x.gains k) (sym t.said.gain) ∙ filled_at n s (gained n b).1 t.said.sixteen k l m

-- ---- which settings a text of a form can have

module _ (h n : ℕ) (s : Settings) where
  -- where it leaves the mean out this is 1, where it leaves the jump out this is 2,000,000, and where it ends after set 3, set 0
  -- stands for the sets after it
  pub said_of : Headed h → Gained n → length s.gains ≡ sets → settings_refusal s ≡ 0 →
      (h ≡ firsts → s.mean ≡ pos 1) → (h < heads → s.jump ≡ pos farthest) → (n ≡ short_sets → filled short_sets s ≡ s) → Said h n s
  said_of a b g e mean jump gain = record { sixteen = g; right = e; head = heading h a mean jump; gain = gaining n b gain }
    where
      heading : (h : ℕ) → Headed h → (h ≡ firsts → s.mean ≡ pos 1) → (h < heads → s.jump ≡ pos farthest) → completed h (picked h (values_of s)) ≡ values_of s
      heading h both_lines f g = refl
      heading h mean_alone f g = sym (ap (λ (z : ℤ). take (firsts + 1) (values_of s) ++ (z ∷ drop heads (values_of s))) (g (omega arith)))
      heading h neither_line f g = sym (ap₂ (λ (y z : ℤ). take firsts (values_of s) ++ (y ∷ z ∷ drop heads (values_of s))) (f refl) (g (omega arith)))

      gaining : (n : ℕ) → Gained n → (n ≡ short_sets → filled short_sets s ≡ s) → filled n s ≡ s
      gaining n full f = filled_all s g
      gaining n short f = f refl

  -- and nothing else
  pub said_mean : Said h n s → h ≡ firsts → s.mean ≡ pos 1
  said_mean t p =
      sym (ap (λ (k : ℕ). get_or (completed k (picked k (values_of s))) firsts (pos 0)) (sym p) ∙ ap (λ (vs : List ℤ). get_or vs firsts (pos 0)) t.head)

  pub said_jump : Headed h → Said h n s → h < heads → s.jump ≡ pos farthest
  said_jump a t l = sym (ap (λ (vs : List ℤ). get_or vs (firsts + 1) (pos 0)) t.head) ∙ left h a l
    where
      left : (h : ℕ) → Headed h → h < heads → get_or (completed h (picked h (values_of s))) (firsts + 1) (pos 0) ≡ pos farthest
      left h both_lines l = absurd (omega arith)
      left h mean_alone l = refl
      left h neither_line l = refl

  pub said_gains : Said h n s → n ≡ short_sets → filled short_sets s ≡ s
  said_gains t p = ap (λ (k : ℕ). filled k s) (sym p) ∙ t.gain

-- the writer's text leaves nothing out
pub full_read : (s : Settings) → length s.gains ≡ sets → settings_refusal s ≡ 0 → read_text (text_of s) ≡ record { code = 0; line = 0; settings = s }
full_read s g e = form_read heads sets s both_lines full (said_of heads sets s both_lines full g e (λ z. absurd (omega arith)) (λ l. absurd (omega arith)) (λ z. absurd (omega arith)))

-- ---- the writer's text of these settings

-- the lines of the first h rows
abbrev pub first_lines : ℕ → Settings → List ℕ
first_lines h s = lines_of (take h rows) (take h (values_of s))

-- those that a text with no more rows before the gain sets leaves out there, as they are written
abbrev pub left_out : ℕ → List ℕ
left_out h = lines_of (drop (h - firsts) later_rows) (drop (h - firsts) absent)

-- those of the first n gain sets, and of the sets after them
abbrev pub set_lines : ℕ → Settings → List ℕ
set_lines n s = lines_of (drop heads (rows_of n)) (drop heads (values_of s))

abbrev pub other_lines : ℕ → Settings → List ℕ
other_lines n s = lines_of (drop (lines_for heads n) rows) (drop (lines_for heads n) (values_of s))

module _ (h n : ℕ) (s : Settings) (a : Headed h) (b : Gained n) (t : Said h n s) where
  rows_many : heads ≤ length (rows_of n)
  rows_many = omega (arith, rows_long n)

  values_many : heads ≤ length (values_of s)
  values_many = omega (arith, values_long s t.sixteen)

  pub form_apart : text_for h n s ≡ first_lines h s ++ set_lines n s
  unfolding text_for
  form_apart =
      let m = (headed h a).1 in
      let k = (gained n b).1 in
      let rs = picked h (rows_of n) in
      let us = picked h (values_of s) in
      let p : take h (rows_of n) ≡ take h rows = sym (ap (take h) (rows_parts n k) ∙ take-append-le h (rows_of n) _ (omega (arith, rows_many))) in
      lines_split h rs us
      ∙ ap₂ (λ (x y : List ℕ). x ++ y)
      (ap₂ lines_of (take_picked h m (rows_of n) rows_many ∙ p) (take_picked h m (values_of s) values_many))
      (ap₂ lines_of (drop_picked h m (rows_of n) rows_many) (drop_picked h m (values_of s) values_many))

  pub form_after : after_lines h (text_for h n s) ≡ set_lines n s
  unfolding text_for in_table
  form_after =
      let l = headed h a in
      let k = (gained n b).1 in
      let rs = picked h (rows_of n) in
      let us = picked h (values_of s) in
      let i = picked_in h l.0 l.1 (rows_of n) (values_of s) rows_many values_many (rows_front n (values_of s) k (sound s t.right).within) in
      ap (after_lines h) (sym (append-nil (lines_of rs us)))
      ∙ lines_past h rs us [] (form_lined h n l.1 k) i (omega (arith, form_long h n l.1))
      ∙ append-nil (lines_of (drop h rs) (drop h us))
      ∙ ap₂ lines_of (drop_picked h l.1 (rows_of n) rows_many) (drop_picked h l.1 (values_of s) values_many)

  -- what a form leaves out before the gain sets
  left_rows : (h : ℕ) → Headed h → take (heads - h) (drop h rows) ≡ drop (h - firsts) later_rows
  unfolding rows_of
  left_rows h both_lines = refl
  left_rows h mean_alone = refl
  left_rows h neither_line = refl

  left_values : (h : ℕ) → Headed h → Said h n s → take (heads - h) (drop h (values_of s)) ≡ drop (h - firsts) absent
  left_values h both_lines t = refl
  left_values h mean_alone t = ap (λ (z : ℤ). z ∷ []) (said_jump (firsts + 1) n s mean_alone t (omega arith))
  left_values h neither_line t = ap₂ (λ (y z : ℤ). y ∷ z ∷ []) (said_mean firsts n s t refl) (said_jump firsts n s neither_line t (omega arith))

  -- and after set n
  sets_apart : lines_of (drop heads rows) (drop heads (values_of s)) ≡ set_lines n s ++ other_lines n s
  sets_apart =
      let k = (gained n b).1 in
      let rs = drop heads (rows_of n) in
      let ws = drop heads (values_of s) in
      let c : length rs ≡ keys * n = length-drop heads (rows_of n) ∙ omega (arith, rows_long n) in
      let d : length (take (keys * n) ws) ≡ keys * n = length-take-le (keys * n) ws (rw length-drop (omega (arith, values_long s t.sixteen))) in
      let p : take (keys * n) (drop heads rows) ≡ rs =
      ap (λ (qs : List Row). take (keys * n) (drop heads qs)) (rows_parts n k)
      ∙ ap (take (keys * n)) (drop-append-le heads (rows_of n) _ rows_many)
      ∙ take_at rs _ (keys * n) c in
      let q : lines_of rs (take (keys * n) ws) ≡ lines_of rs ws =
      sym (ap (lines_of rs) (sym (take-append-drop (keys * n) ws)) ∙ lines_front rs (take (keys * n) ws) (drop (keys * n) ws) (d ∙ sym c)) in
      lines_split (keys * n) (drop heads rows) ws
      ∙ ap₂ (λ (x y : List ℕ). x ++ y) (ap (λ (qs : List Row). lines_of qs (take (keys * n) ws)) p ∙ q)
      (ap₂ lines_of (drop-drop (keys * n) heads rows) (drop-drop (keys * n) heads (values_of s)))

  pub full_apart : text_of s ≡ first_lines h s ++ (left_out h ++ (set_lines n s ++ other_lines n s))
  full_apart =
      let m = (headed h a).1 in
      let vs = values_of s in
      let p : h + (heads - h) ≡ heads = omega arith in
      text_whole s
      ∙ lines_split h rows vs
      ∙ ap (λ (x : List ℕ). first_lines h s ++ x)
      (lines_split (heads - h) (drop h rows) (drop h vs)
      ∙ ap₂ (λ (x y : List ℕ). x ++ y)
      (ap₂ lines_of (left_rows h a) (left_values h a t))
      (ap₂ lines_of (drop-drop (heads - h) h rows ∙ ap (λ (j : ℕ). drop j rows) p) (drop-drop (heads - h) h vs ∙ ap (λ (j : ℕ). drop j vs) p) ∙ sets_apart))

-- ---- how long an accepted text is

pub form_most : (text : List ℕ) → (read_text text).code ≡ 0 → length text ≤ longest_for (heads_in text) (sets_in (heads_in text) text)
form_most text e =
    let h = heads_in text in
    let n = sets_in h text in
    let t = text_back text e in
    let s = (read_text text).settings in
    let l = sound_long h n s (heads_in_lem text) (sets_in_lem h text) t.said.sixteen t.said.right in
    omega (arith, l, ap length t.same)

most_of : (b : Bool) (m n : ℕ) → n ≤ m → cond b m n ≤ m
most_of b m n l = chosen (λ (k : ℕ). k ≤ m) b (λ _. omega arith) (λ _. l)

pub text_most : (text : List ℕ) → (read_text text).code ≡ 0 → length text ≤ longest_text
text_most text e =
    let h = heads_in text in
    let gains = most_of (eqb (sets_in h text) sets) 1044 306 (omega arith) in
    let mean = most_of (ltb firsts h) 9 0 (omega arith) in
    let jump = most_of (ltb (firsts + 1) h) 13 0 (omega arith) in
    omega (arith, form_most text e)
