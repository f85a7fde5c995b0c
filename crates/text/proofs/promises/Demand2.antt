-- DEMAND 2, and 02's requests 5, 7 and 8, of the settings text, for every text, every settings record and every buffer. By their
-- contracts the reader answers `read_text text`, and the writer answers `written_of s (length buffer)` and leaves
-- `buffer_after s buffer`. (Every settings record that a program holds has sixteen gain sets, by its type.)
-- A text has h rows before the gain sets, heads of them, firsts + 1 where it leaves jump out, or firsts where it leaves out mean
-- and jump, and n gain sets, all or four.
use Prim.Native.Nat.{ℕ, ◌+◌, ◌-◌, ◌<◌, ◌≤◌}
use mathlib.Core.Path.{◌≡◌, refl, sym, ap, ◌∙◌}
use mathlib.Core.Bool.{true, false}
use mathlib.Core.List.{List, [], ◌++◌, append-nil}
use mathlib.Core.Logic.{◌↔◌, ◌⊎◌, ⊎_elim}
use native.Mathlib.Omega.{arith}
use lib.Dec.{eqb}
use lib.IntN.{ℤ, pos}
use lib.ListN.{length, get_or, take, drop}
use lib.Seq.{take_at}
use Rattle.whole.specs.Words.{bytes}
use Rattle.settings.specs.declared.Settings.{Settings}
use Rattle.settings.specs.Table.{farthest, later_rows, firsts, heads, sets, short_sets, lines_for, lines, rows_of, rows, picked, no_row}
use Rattle.settings.specs.Settings.{gains_at, values_of, settings_of, absent, completed, filled, all_in, settings_refusal}
use Rattle.settings.specs.SettingsC.{settings_c}
use Rattle.settings.proofs.Values.{filled_all}
use Rattle.word.specs.Decimal.{shown}
use Rattle.word.specs.End.{begins}
use Rattle.writer.specs.Lines.{lines_of, Headed, mean_alone, neither_line, Gained, full, short, text_for, text_of, longest_for, longest_text}
use Rattle.text.specs.Reader.{Reading, line_code, after_lines, refused, read_end, heads_in, sets_in, read_text}
use Rattle.writer.specs.Writer.{written_of, buffer_after}
use Rattle.text.proofs.Texts.{has_neither, has_both, heads_in_lem, kp0_first, goes_on, sets_in_lem, text_answer}
use Rattle.writer.proofs.Writes.{fits_in, wrote, wrote_nothing}
use Rattle.text.proofs.Forms as forms
use Rattle.text.proofs.SettingsC as examples

-- ---- there and back

-- "Settings read from text are written back as the same bytes", which are "claimed only for texts that have every line". A text
-- that is accepted, of which neither the line after rate nor that after mean begins with `kp0`, and that has bytes after line 28,
-- is written again into any buffer with room for it, from the buffer's first byte on; the bytes after it stay, and the length
-- answered is the text's.
pub read_then_written : (text buffer : List ℕ) → (read_text text).code ≡ 0 →
    begins (bytes "kp0") (after_lines firsts text) ≡ false → begins (bytes "kp0") (after_lines (firsts + 1) text) ≡ false →
    0 < length (after_lines (lines_for heads short_sets) text) → length text ≤ length buffer →
    (written_of (read_text text).settings (length buffer) ≡ record { code = 0; len = length text })
    × (buffer_after (read_text text).settings buffer ≡ text ++ drop (length text) buffer)
read_then_written text buffer e mean jump more h =
    let t = forms.form_back heads sets text e (has_both text mean jump) (goes_on heads text more) in
    let w = fits_in (read_text text).settings buffer t.said.right (rw (← t.same) h) in
    (rw (← t.same) at (sym w.says), rw (← t.same) at (sym w.holds))

-- "And settings written are read back the same." What is written without a refusal is read as the settings written.
pub written_then_read : (s : Settings) (buffer : List ℕ) → length s.gains ≡ sets → (written_of s (length buffer)).code ≡ 0 →
    read_text (take (written_of s (length buffer)).len (buffer_after s buffer)) ≡ record { code = 0; line = 0; settings = s }
written_then_read s buffer g e =
    let h = wrote s buffer e in
    let w = fits_in s buffer h.right h.fit in
    rw (← w.says, ← w.holds, take_at (text_of s) (drop (length (text_of s)) buffer) (length (text_of s)) refl) (forms.full_read s g h.right)

-- ---- the forms

-- "a text whose line after rate begins with kp0 is read as mean 1"
pub without_mean : (text : List ℕ) → (read_text text).code ≡ 0 → begins (bytes "kp0") (after_lines firsts text) ≡ true → (read_text text).settings.mean ≡ pos 1
without_mean text e begun =
    let h = heads_in text in
    forms.said_mean h (sets_in h text) (read_text text).settings (forms.text_back text e).said (has_neither text begun)

-- "and one without jump means 2,000,000": one whose line after rate, or whose line after mean, begins with `kp0`.
pub without_jump : (text : List ℕ) → (read_text text).code ≡ 0 →
    (begins (bytes "kp0") (after_lines firsts text) ≡ true) ⊎ (begins (bytes "kp0") (after_lines (firsts + 1) text) ≡ true) →
    (read_text text).settings.jump ≡ pos farthest
without_jump text e begun =
    let h = heads_in text in
    forms.said_jump h (sets_in h text) (read_text text).settings (heads_in_lem text) (forms.text_back text e).said
    (⊎_elim (λ t. omega (arith, kp0_first text firsts neither_line t)) (λ t. omega (arith, kp0_first text (firsts + 1) mean_alone t)) begun)

-- "A text that ends after 26 lines is still read, with sets 4 to 15 equal to set 0", and "with the line request 5's 26 and 27 are
-- one more", with jump two: any set from 4 on, whether the text has mean and jump or not.
pub short_sets_lem : (text : List ℕ) → (read_text text).code ≡ 0 → after_lines (lines_for (heads_in text) short_sets) text ≡ [] →
    (k : ℕ) → short_sets ≤ k → k < sets → gains_at (read_text text).settings.gains k ≡ gains_at (read_text text).settings.gains 0
short_sets_lem text e end k l m =
    let h = heads_in text in
    forms.missing_sets (read_text text).settings short (forms.form_back h short_sets text e refl (forms.ends_here h text end)) k l m

-- "The writer always gives it", and "Writing always gives 86 lines": what is read from any text that is accepted is written in
-- full. To the text's own lines are added, after the first h, those of mean and jump that it has not, and after its last one the
-- lines of the sets that it has none of.
pub short_then_written : (text buffer : List ℕ) → (read_text text).code ≡ 0 →
    let s = (read_text text).settings in
    let h = heads_in text in
    let last = lines_for heads (sets_in h text) in
    let front = lines_of (take h rows) (take h (values_of s)) in
    let added = lines_of (drop (h - firsts) later_rows) (drop (h - firsts) absent) in
    let all = front ++ (added ++ (after_lines h text ++ lines_of (drop last rows) (drop last (values_of s)))) in
    length all ≤ length buffer →
    (text ≡ front ++ after_lines h text)
    × (written_of s (length buffer) ≡ record { code = 0; len = length all })
    × (buffer_after s buffer ≡ all ++ drop (length all) buffer)
short_then_written text buffer e room =
    let s = (read_text text).settings in
    let h = heads_in text in
    let n = sets_in h text in
    let a = heads_in_lem text in
    let b = sets_in_lem h text in
    let t = forms.text_back text e in
    let p = ap (after_lines h) t.same ∙ forms.form_after h n s a b t.said in
    let q : text_of s ≡ forms.first_lines h s ++ (forms.left_out h ++ (after_lines h text ++ forms.other_lines n s)) =
    rw p (forms.full_apart h n s a b t.said) in
    let w = fits_in s buffer t.said.right (rw q room) in
    (t.same ∙ forms.form_apart h n s a b t.said ∙ rw p, rw q at (sym w.says), rw q at (sym w.holds))

-- The lines that are added where a text has neither, and the one where it has mean alone.
pub mean_written : lines_of later_rows absent ≡ bytes "mean=1\njump=2000000\n"
unfolding shown
mean_written = refl

pub jump_written : lines_of (drop 1 later_rows) (drop 1 absent) ≡ bytes "jump=2000000\n"
unfolding shown
jump_written = refl

-- A text is accepted exactly when it is, in one of the six forms, that of acceptable settings (neither 11 nor 16 is due for them):
-- of any in full; without mean, of those whose mean is 1; without jump, of those whose jump is 2,000,000; and with the lines of
-- four gain sets, of those where set 0 stands in the place of each set from 4 on.
pub record Form (text : List ℕ) (s : Settings) : Type 0 where
  pub h : ℕ
  pub n : ℕ
  pub heading : Headed h
  pub gaining : Gained n
  pub mean : h ≡ firsts → s.mean ≡ pos 1
  pub jump : h < heads → s.jump ≡ pos farthest
  pub gains : n ≡ short_sets → filled short_sets s ≡ s
  pub same : text ≡ text_for h n s

pub accepted_exactly : (text : List ℕ) →
    ((read_text text).code ≡ 0) ↔ ((s : Settings) × (length s.gains ≡ sets) × (settings_refusal s ≡ 0) × Form text s)
accepted_exactly text = (forth, λ p. back p.0 p.1 p.2 p.3)
  where
    forth : (read_text text).code ≡ 0 → (s : Settings) × (length s.gains ≡ sets) × (settings_refusal s ≡ 0) × Form text s
    forth e =
        let s = (read_text text).settings in
        let i = heads_in text in
        let k = sets_in i text in
        let t = forms.text_back text e in (
          s,
          t.said.sixteen,
          t.said.right,
          record {
            h = i;
            n = k;
            heading = heads_in_lem text;
            gaining = sets_in_lem i text;
            mean = forms.said_mean i k s t.said;
            jump = forms.said_jump i k s (heads_in_lem text) t.said;
            gains = forms.said_gains i k s t.said;
            same = t.same;
          },
        )

    back : (s : Settings) → length s.gains ≡ sets → settings_refusal s ≡ 0 → Form text s → (read_text text).code ≡ 0
    back s g e f =
        ap (λ (x : List ℕ). (read_text x).code) f.same
        ∙ ap (λ (d : Reading). d.code)
        (forms.form_read f.h f.n s f.heading f.gaining (forms.said_of f.h f.n s f.heading f.gaining g e f.mean f.jump f.gains))

-- "86 lines, 1,044 bytes at most", and the lines of mean and jump at most 9 and 13 more: an accepted text has at most 1,066, and
-- no more than the longest of its form; and in each form one has as many.
pub at_most_longest : (text : List ℕ) → (read_text text).code ≡ 0 → length text ≤ longest_text
at_most_longest text e = forms.text_most text e

pub form_at_most : (text : List ℕ) → (read_text text).code ≡ 0 → length text ≤ longest_for (heads_in text) (sets_in (heads_in text) text)
form_at_most text e = forms.form_most text e

pub longest_bytes :
    (longest_text ≡ 1066)
    × (longest_for heads short_sets ≡ 328)
    × (longest_for (firsts + 1) sets ≡ 1053)
    × (longest_for (firsts + 1) short_sets ≡ 315)
    × (longest_for firsts sets ≡ 1044)
    × (longest_for firsts short_sets ≡ 306)
longest_bytes = (refl, refl, refl, refl, refl, refl)

pub one_has_longest : (h n : ℕ) → Headed h → Gained n →
    (length (text_for h n (examples.longest h)) ≡ longest_for h n) × ((read_text (text_for h n (examples.longest h))).code ≡ 0)
one_has_longest h n a b = (examples.longest_written h n a b, examples.longest_read h n a b)

-- Settings C: without mean and jump, its first 26 lines are those of 01, and these are read as C.
pub c_there_and_back : (text_for firsts short_sets settings_c ≡ examples.text_c) × (read_text examples.text_c ≡ record { code = 0; line = 0; settings = settings_c })
c_there_and_back = (examples.c_written, examples.c_read)

-- ---- every answer

-- Every reading is one of these: code 0 and settings; the blank beside 14 or 15 and a line from 1 to 88; the blank beside 17
-- or 16 and line 0.
pub data Answer : Reading → Type 0 where
  done : (s : Settings) → Answer (record { code = 0; line = 0; settings = s })
  at_line : (code n : ℕ) → (code ≡ 14) ⊎ (code ≡ 15) → 1 ≤ n → n ≤ lines → Answer (refused code n)
  at_end : (code : ℕ) → (code ≡ 17) ⊎ (code ≡ 16) → Answer (refused code 0)

pub every_reading : (text : List ℕ) → Answer (read_text text)
every_reading text = text_answer Answer done at_line at_end text

-- Which it is, exactly. "Lines count from 1 and are tested in order, 14 before 15 in each": after j right lines, the first that
-- is not has its code and its number. The line after rate is that of mean, and the line after mean that of jump, unless it
-- "begins with kp0"; so where one of these is the wrong one, it begins so exactly if h is j. After line 26, 27 with mean, or 28
-- with mean and jump, the text is refused where a byte follows: "bytes after line 26 that do not go on as line 27 are 14 there".
pub first_wrong : (h j : ℕ) (vs : List ℤ) (s : List ℕ) → Headed h → j < lines_for h sets → length vs ≡ j → all_in (take j (picked h rows)) vs ≡ true →
    (firsts ≤ j → j < heads → j ≤ h → begins (bytes "kp0") s ≡ eqb h j) → (j ≡ lines_for h short_sets → 0 < length s) →
    let r = get_or (picked h rows) j no_row in
    (line_code r s ≡ 0 → ⊥) → read_text (lines_of (take j (picked h rows)) vs ++ s) ≡ refused (line_code r s) (j + 1)
first_wrong h j vs s a l e i form more f = forms.first_wrong h j vs s a l e i form more f

-- "Text that stops early is 14 at the line where it stops": after j right lines, j below 88 and not 28, without jump below 87 and
-- not 27, or with neither below 86 and not 26, that is line j + 1.
pub stops_early : (h j : ℕ) (vs : List ℤ) → Headed h → j < lines_for h sets → (j ≡ lines_for h short_sets → ⊥) → length vs ≡ j → all_in (take j (picked h rows)) vs ≡ true →
    read_text (lines_of (take j (picked h rows)) vs) ≡ refused 14 (j + 1)
stops_early h j vs a l f e i = forms.text_stops h j vs a l f e i

-- "Then 17, then 16": after the lines of all gain sets, and after those of four where nothing follows.
pub after_last : (h : ℕ) (vs : List ℤ) (s : List ℕ) → Headed h → length vs ≡ lines_for h sets → all_in (picked h rows) vs ≡ true →
    read_text (lines_of (picked h rows) vs ++ s) ≡ read_end (settings_of (completed h vs)) (length s)
after_last h vs s a e i =
    forms.all_right h sets vs s a full (λ z. absurd (omega arith)) e i
    ∙ ap (λ (x : Settings). read_end x (length s)) (filled_all (settings_of (completed h vs)) refl)

pub after_short : (h : ℕ) (vs : List ℤ) → Headed h → length vs ≡ lines_for h short_sets → all_in (picked h (rows_of short_sets)) vs ≡ true →
    read_text (lines_of (picked h (rows_of short_sets)) vs) ≡ read_end (filled short_sets (settings_of (completed h vs))) 0
after_short h vs a e i =
    ap read_text (sym (append-nil (lines_of (picked h (rows_of short_sets)) vs))) ∙ forms.all_right h short_sets vs [] a short (λ _. refl) e i

-- A refused writing answers length 0 and leaves every byte of the buffer.
pub refused_writing : (s : Settings) (buffer : List ℕ) → ((written_of s (length buffer)).code ≡ 0 → ⊥) →
    ((written_of s (length buffer)).len ≡ 0) × (buffer_after s buffer ≡ buffer)
refused_writing s buffer f = wrote_nothing s buffer f
