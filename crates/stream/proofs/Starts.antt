-- The settings text: the line that its reading reports is one of its rows', and what is accepted can be made a loop.
use Prim.Native.Nat.{ℕ, ◌+◌, ◌≤◌}
use mathlib.Core.Path.{◌≡◌}
use mathlib.Core.List.{List, [], ◌∷◌, ◌++◌}
use native.Mathlib.Omega.{arith}
use lib.Dec.{eqb, ltb}
use lib.IntN.{ℤ}
use lib.ListN.{length}
use Rattle.whole.proofs.Truth.{chosen}
use Rattle.settings.specs.declared.table.Row.{Row}
use Rattle.settings.specs.Table.{lines, rows_of, picked}
use Rattle.settings.specs.Settings.{settings_of, completed, filled, ordered, settings_refusal}
use Rattle.text.specs.Reader.{Reading, after_line, line_code, line_value, read_end, read_from, heads_in, sets_in, read_text}
use Rattle.writer.proofs.Rows.{form_long, headed, gained}
use Rattle.text.proofs.Texts.{heads_in_lem, sets_in_lem}
use Rattle.text.proofs.Forms.{text_back}

line_from : (h k : ℕ) (rs : List Row) (n : ℕ) (vs : List ℤ) (s : List ℕ) → (read_from h k rs n vs s).line ≤ n + length rs
unfolding read_end
line_from h k [] n vs s =
    chosen (λ (d : Reading). d.line ≤ n + 0) (ltb 0 (length s)) (λ _. omega arith)
    (λ _. chosen (λ (d : Reading). d.line ≤ n + 0) (ordered (filled k (settings_of (completed h vs)))) (λ _. omega arith) (λ _. omega arith))
line_from h k (r ∷ rs) n vs s =
    chosen (λ (d : Reading). d.line ≤ n + length (r ∷ rs)) (eqb (line_code r s) 0) (λ _. omega (arith, line_from h k rs (n + 1) (vs ++ (line_value r s ∷ [])) (after_line s))) (λ _. omega arith)

pub line_few : (s : List ℕ) → (read_text s).line ≤ lines + 1
unfolding read_text
line_few s =
    let h = heads_in s in
    let k = sets_in h s in
    let m = (headed h (heads_in_lem s)).1 in
    omega (arith, line_from h k (picked h (rows_of k)) 1 [] s, form_long h k m, m, (gained k (sets_in_lem h s)).1)

pub text_right : (s : List ℕ) → (read_text s).code ≡ 0 → settings_refusal (read_text s).settings ≡ 0
text_right s e = (text_back s e).said.right
