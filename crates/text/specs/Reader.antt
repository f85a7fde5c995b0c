-- 01, "Settings text", with 02's requests 5, 7 and 8: what a text is read as.
use Rattle.std.specs.Prelude.{ℕ, zero, suc, ◌+◌, Bool, cond, ◌&&◌, List, [], ◌∷◌, ◌++◌, ltb, eqb, ℤ, pos, length, take, drop, Option, Some, None, Result, Ok, Err}
use Rattle.whole.specs.Words.{bytes}
use Rattle.settings.specs.declared.table.Row.{Row}
use Rattle.settings.specs.declared.Settings.{Settings}
use Rattle.settings.specs.Table.{firsts, heads, sets, short_sets, lines_for, rows_of, picked, key_of, in_row}
use Rattle.settings.specs.Settings.{settings_of, completed, filled, blank_settings, ordered}
use Rattle.refusal.specs.declared.Refusal.{Refusal}
use Rattle.refusal.specs.Refusal.{code_for, code_in}
use Rattle.word.specs.Decimal.{is_decimal, number_of}
use Rattle.word.specs.End.{end_at, feed, begins}
use Rattle.text.specs.declared.reader.Fault.{Fault}
use Rattle.text.specs.declared.reader.Reading.{Reading as Outcome}

-- ---- the first line of what is left of a text

-- the bytes before the line feed
unfoldable pub line_in : List ℕ → List ℕ
line_in s = take (end_at feed s) s

-- whether there is a line feed. "Text that stops early" has none
unfoldable pub ended : List ℕ → Bool
ended s = ltb (end_at feed s) (length s)

-- what stands after the line feed
unfoldable pub after_line : List ℕ → List ℕ
after_line s = drop (end_at feed s + 1) s

-- ---- one line

-- what stands after the row's key
unfoldable pub word_in : Row → List ℕ → List ℕ
word_in r l = drop (length (key_of r)) l

-- "each key, `=`, value"
unfoldable pub formed : Row → List ℕ → Bool
formed r l = begins (key_of r) l && is_decimal (word_in r l)

-- the value of such a line
abbrev pub value_in : Row → List ℕ → Option ℤ
value_in r l = cond (formed r l) (Some (number_of (word_in r l))) None

-- the value of the first line
unfoldable pub line_value : Row → List ℕ → ℤ
line_value r s = number_of (word_in r (line_in s))

-- "14 before 15 in each", 0 where neither is due; "text that stops early is 14"
unfoldable pub line_code : Row → List ℕ → ℕ
line_code r s = cond (ended s && formed r (line_in s)) (cond (in_row r (line_value r s)) 0 15) 14

-- what a line is read as: a code, and a value beside it
pub record Line : Type 0 where
  pub code : ℕ
  pub value : ℤ

abbrev pub line_told : Result ℤ Refusal → Line
line_told (Ok z) = record { code = 0; value = z }
line_told (Err r) = record { code = code_for r; value = pos 0 }

-- the code, and the value where that is 0
abbrev pub line_read : Row → List ℕ → Line
line_read r s = record { code = line_code r s; value = cond (eqb (line_code r s) 0) (line_value r s) (pos 0) }

-- ---- the text

-- what a text is read as: a code, the line of codes 14 and 15, and settings
pub record Reading : Type 0 where
  pub code : ℕ
  pub line : ℕ
  pub settings : Settings

abbrev pub reading_told : Outcome → Reading
reading_told r = record { code = code_in r.outcome; line = r.line; settings = r.settings }

-- "what stands beside the code is the blank"
abbrev pub refused : ℕ → ℕ → Reading
refused code n = record { code = code; line = n; settings = blank_settings }

abbrev pub read_told : Result Settings Fault → Reading
read_told (Ok x) = record { code = 0; line = 0; settings = x }
read_told (Err f) = refused (code_for f.refusal) f.line

-- "Then 17, then 16. Codes other than 14 and 15 report line 0": left bytes stand after the last line
unfoldable pub read_end : Settings → ℕ → Reading
read_end x left =
    cond (ltb 0 left) (refused 17 0)
    (cond (ordered x) (record { code = 0; line = 0; settings = x }) (refused 16 0))

-- "Lines count from 1 and are tested in order": line n is that of the first row, and vs are the values before it; the text has
-- the lines of h rows before the gain sets, and of k sets
abbrev pub read_from : ℕ → ℕ → List Row → ℕ → List ℤ → List ℕ → Reading
read_from h k [] n vs s = read_end (filled k (settings_of (completed h vs))) (length s)
read_from h k (r ∷ rs) n vs s =
    cond (eqb (line_code r s) 0) (read_from h k rs (n + 1) (vs ++ (line_value r s ∷ [])) (after_line s)) (refused (line_code r s) n)

-- what stands after n lines
abbrev pub after_lines : ℕ → List ℕ → List ℕ
after_lines zero s = s
after_lines (suc n) s = after_lines n (after_line s)

-- the rows before the gain sets whose lines the text is to have. "A text may have neither line, mean alone, or both": "a text
-- whose line after rate begins with kp0" has neither, else one whose line after mean does has mean alone
unfoldable pub heads_in : List ℕ → ℕ
heads_in s =
    cond (begins (bytes "kp0") (after_lines firsts s)) firsts
    (cond (begins (bytes "kp0") (after_lines (firsts + 1) s)) (firsts + 1) heads)

-- "A text that ends after 26 lines is still read"; where bytes stand after them, they "go on as line 27", and with mean these "are
-- one more", with jump two: the gain sets whose lines the text is to have
unfoldable pub sets_in : ℕ → List ℕ → ℕ
sets_in h s = cond (ltb 0 (length (after_lines (lines_for h short_sets) s))) sets short_sets

unfoldable pub read_text : List ℕ → Reading
read_text s =
    let h = heads_in s in
    let k = sets_in h s in
    read_from h k (picked h (rows_of k)) 1 [] s
