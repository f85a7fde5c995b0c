use Prim.Native.Nat.{ℕ}
use mathlib.Core.Path.{◌≡◌, refl, sym, ap, ◌∙◌}
use mathlib.Core.Bool.{true}
use native.Mathlib.Omega.{arith}
use borrow.Author.Rules.{rules}
use borrow.Author.Tests.{lt-ltb, le-ltb}
use lib.Dec.{ltb}
use lib.IntN.{ℤ}
use lib.ListN.{length, take, length-take}
use mir.Syntax.{w32}
use mir.Val.{SFits}
use mir.Facts.{to_z-of_z}
use Rattle.std.proofs.Common.{Option, Some, None, Ok, Err}
use Rattle.std.specs.Option.{ok_or}
use Rattle.std.proofs.lemmas.Result.{err_from_is_err_and}
use Rattle.refusal.specs.declared.Refusal.{Refusal}
use Rattle.refusal.specs.declared.Refusal.TheVariants.{WrongForm}
use Rattle.settings.specs.Table.{in_row}
use Rattle.word.specs.End.{feed}
use Rattle.word.proofs.Words.{end_in}
use Rattle.text.specs.Reader.{line_in, ended, value_in}
use Rattle.text.proofs.Texts.{line_wrong, line_stops, line_out, line_good}
use Rattle.text.proofs.reader.read_line.Goals as goal
use Rattle.text.proofs.reader.read_line.Goals.{After-value_in, After-holds-held, Else-not-ended}

-- the value, said of the text: the part up to end is the line
told : (c : After-value_in) → c.value_in.result ≡ value_in c.args.row (line_in c.args.rest.now)
unfolding line_in
told c = c.value_in.ensures ∙ ap (λ (n : ℕ). value_in c.args.row (take n c.args.rest.now)) c.requires

-- what a value, and no value, were
was_none : (o : Option ℤ) (e w : Refusal) → Err e ≡ ok_or o w → (o ≡ None) × (e ≡ w)
was_none None e w p = (refl, cc)
was_none (Some z) e w p = (cc, cc)

was_some : (o : Option ℤ) (z : ℤ) (w : Refusal) → Ok z ≡ ok_or o w → o ≡ Some z
was_some None z w p = cc
was_some (Some y) z w p = cc

-- the test of the range, said of the value
held : (c : After-holds-held) → c.holds-held.result ≡ in_row c.args.row c.in_ok-value.value
held c =
    let f : SFits w32 c.in_ok-value.value = search rules in
    rw (to_z-of_z f) at c.holds-held.ensures

-- the line feed is there
closed : (c : Else-not-ended) → ended c.args.rest.now ≡ true
unfolding ended
closed c = ap (λ (n : ℕ). ltb n (length c.args.rest.now)) (sym c.requires) ∙ lt-ltb _ _ c.if-not-ended.false

pub slice_bounds-value_in-end : goal.slice_bounds-value_in-end
slice_bounds-value_in-end c = simp length-take (omega (arith, c.requires, end_in feed c.args.rest.now))

pub returns-in_err-value : goal.returns-in_err-value
returns-in_err-value c =
    let p = err_from_is_err_and c.from_residual.result c.from_residual.ensures.1 in
    let o = was_none c.value_in.result c.in_err-value.field-0.0 WrongForm c.in_err-value.ensures.value in
    rw (p.1, p.2, o.1) (sym (line_wrong _ _ (sym (told (goal.at.returns-in_err-value c).After-value_in) ∙ o.0)))

pub returns-then-not-ended : goal.returns-then-not-ended
unfolding ended
returns-then-not-ended c =
    let e = ap (λ (n : ℕ). ltb n (length c.args.rest.now)) (sym c.requires) in
    sym (line_stops c.args.row c.args.rest.now (e ∙ le-ltb _ _ c.if-not-ended.true))

-- past both tests the value is that of the line
pub returns-then-not-held : goal.returns-then-not-held
returns-then-not-held c =
    let at = goal.at.returns-then-not-held c in
    let v = was_some c.value_in.result c.in_ok-value.value WrongForm c.in_ok-value.ensures.value in
    sym (line_out _ _ _ (sym (told at.After-value_in) ∙ v) (closed at.Else-not-ended) (sym (held at.After-holds-held) ∙ c.if-not-held.true))

pub returns : goal.returns
returns c =
    let at = goal.at.returns c in
    let f : SFits w32 c.in_ok-value.value = search rules in
    let v = was_some c.value_in.result c.in_ok-value.value WrongForm c.in_ok-value.ensures.value in
    rw (to_z-of_z f) (sym (line_good _ _ _ (sym (told at.After-value_in) ∙ v) (closed at.Else-not-ended) (sym (held at.After-holds-held) ∙ c.if-not-held.false)))
