use Prim.Native.Nat.{ℕ}
use mathlib.Core.Path.{◌≡◌, sym, ap, ◌∙◌}
use mathlib.Core.Bool.{Bool}
use mathlib.Core.List.{List}
use lib.Dec.{eqb}
use lib.ListN.{length, take, drop}
use lib.Pointwise.{pointwise}
use Rattle.settings.specs.Table.{key_of}
use Rattle.settings.specs.declared.table.Row.{Row}
use Rattle.word.specs.Decimal.{decimal_of}
use Rattle.word.specs.End.{begins}
use Rattle.word.proofs.Words.{front_begins}
use Rattle.text.specs.Reader.{word_in}
use Rattle.text.proofs.Texts.{not_begun, begun}
use Rattle.text.proofs.reader.value_in.Goals as goal

-- the test that std makes, said of the row's key
told : (row : Row) (line key : List ℕ) {b : Bool} → key ≡ key_of row → pointwise eqb (take (length key) line) key ≡ b → begins (key_of row) line ≡ b
told row line key e p = ap (λ (k : List ℕ). begins k line) (sym e) ∙ sym (front_begins key line) ∙ p

pub returns-in_err-word : goal.returns-in_err-word
returns-in_err-word c =
    c.from_residual.ensures ∙ sym (not_begun c.args.row c.args.line.now (told c.args.row c.args.line.now c.key.result.now c.key.ensures c.in_err-word.ensures.cases))

pub returns : goal.returns
unfolding word_in
returns c =
    let h = c.in_ok-word.ensures.cases in
    c.read_decimal.ensures
    ∙ ap decimal_of (h.1 ∙ ap (λ (k : List ℕ). drop (length k) c.args.line.now) c.key.ensures)
    ∙ sym (begun c.args.row c.args.line.now (told c.args.row c.args.line.now c.key.result.now c.key.ensures h.0))
