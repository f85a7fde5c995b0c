use mathlib.Core.Path.{◌≡◌, sym, ap, ◌∙◌}
use Prim.Native.Nat.{ℕ}
use borrow.Author.Rules.{rules}
use borrow.Author.Tests.{eq-eqb, ne_eqb}
use lib.IntN.{ℤ}
use mir.Syntax.{w32}
use mir.Val.{SFits}
use mir.Facts.{to_z-of_z}
use mathlib.Core.List.{List}
use Rattle.std.specs.Prelude.{Ok, Err, Option, Some}
use Rattle.word.specs.Decimal.{decimal_of}
use Rattle.whole.proofs.Truth.{cond_yes, cond_no}
use Rattle.refusal.specs.declared.Refusal.{Refusal}
use Rattle.refusal.specs.Refusal.{code_for, code_in}
use Rattle.refusal.proofs.promises.Codes.{refused_not_0}
use Rattle.delivery.specs.declared.numbered.Delivered.{Delivered}
use Rattle.delivery.specs.declared.numbered.Numbered.{Numbered}
use Rattle.delivery.specs.Numbered.{delivered_told}
use Rattle.delivery.specs.Numbered.{Delivered as Told}
use Rattle.delivery.proofs.promises.Delivery.{refused_back}
use Rattle.answer.specs.Verdict.{refused, answered}
use Rattle.answer.specs.Oven.{output_line, sampled_of, by_answer, by_sample, by_decimal, sample_line}
use Rattle.answer.proofs.Verdicts.{judges_by, judges_refused}
use Rattle.answer.proofs.oven.sample_line.Goals as goal
use Rattle.answer.proofs.oven.sample_line.Goals.{After-deliver-told}

by_refusal : (d : Delivered) (r : Refusal) → d.outcome ≡ Err r → by_answer (delivered_told d) ≡ refused d.state (code_for r)
unfolding by_answer
by_refusal d r e = cond_no _ _ (ne_eqb (code_in d.outcome) 0 (λ z. refused_not_0 r (sym (ap code_in e) ∙ z))) ∙ ap (refused d.state) (ap code_in e)

by_output : (d : Delivered) → d.outcome ≡ Ok tt → by_answer (delivered_told d) ≡ answered d.state (output_line d.output)
unfolding by_answer
by_output d e = cond_yes _ _ (eq-eqb (code_in d.outcome) 0 (ap code_in e))

-- a sample that is refused leaves the loop that came in
back : (l : Numbered) (pv : ℤ) (d : Delivered) (r : Refusal) → delivered_told d ≡ sampled_of l pv → d.outcome ≡ Err r → d.state ≡ l
back l pv d r e h =
    ap (λ (t : Told). t.state) e ∙ refused_back l _ _ (λ z. refused_not_0 r (sym (ap code_in h) ∙ ap (λ (t : Told). t.code) e ∙ z))

-- the line is a decimal
sample_is : (l : Numbered) (w : List ℕ) {o : Option ℤ} {pv : ℤ} → o ≡ decimal_of w → o ≡ Some pv → sample_line l w ≡ by_sample l pv
unfolding sample_line
sample_is l w e h = ap (by_decimal l) (sym e ∙ h)

-- and is delivered
told_is : (c : After-deliver-told) → delivered_told c.deliver-told.result ≡ sampled_of c.args.state c.in-Some.pv
told_is c = let w : SFits w32 c.in-Some.pv = search rules in rw (to_z-of_z w) at c.deliver-told.ensures

answer_is : (c : After-deliver-told) → sample_line c.args.state c.args.line.now ≡ by_answer (delivered_told c.deliver-told.result)
unfolding by_sample
answer_is c = sample_is c.args.state c.args.line.now c.read_decimal.ensures c.in-Some.is ∙ cond_no _ _ (ne_eqb _ _ c.if-last.false) ∙ ap by_answer (sym (told_is c))

pub returns-in_default : goal.returns-in_default
unfolding sample_line
returns-in_default c =
    judges_by (ap (by_decimal c.args.state) (sym c.read_decimal.ensures ∙ c.in_default.is)) judges_refused

pub returns-then-last : goal.returns-then-last
unfolding by_sample
returns-then-last c =
    judges_by (sample_is c.args.state c.args.line.now c.read_decimal.ensures c.in-Some.is ∙ cond_yes _ _ (eq-eqb _ _ c.if-last.true)) judges_refused

pub returns-in_err-told : goal.returns-in_err-told
returns-in_err-told c =
    let a = (goal.at.returns-in_err-told c).After-deliver-told in
    let d = c.deliver-told.result in
    let r = c.in_err-told.field-0.0 in
    let e : c.from_residual.result ≡ Err r = search rules in
    rw e (judges_by (answer_is a ∙ by_refusal d r c.in_err-told.was ∙ ap (λ (l : Numbered). refused l (code_for r)) (back c.args.state c.in-Some.pv d r (told_is a) c.in_err-told.was)) judges_refused)

pub returns : goal.returns
returns c =
    let a = (goal.at.returns c).After-deliver-told in
    let d = c.deliver-told.result in
    let f : SFits w32 d.output = search rules in
    judges_by (answer_is a ∙ by_output d c.in_ok-told.was ∙ ap (λ (u : ℤ). answered d.state (output_line u)) (sym (to_z-of_z f))) c.answer.ensures
