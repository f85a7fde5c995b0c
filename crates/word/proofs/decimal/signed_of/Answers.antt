use Prim.Native.Nat.{ℕ}
use mathlib.Core.Path.{◌≡◌, sym, ap, ◌∙◌}
use mathlib.Core.Bool.{true, false}
use mathlib.Core.List.{List, [], ◌∷◌}
use native.Mathlib.Omega.{arith}
use borrow.Author.Tests.{eq-eqb, ne_eqb, lt-ltb, le-ltb, le-leb, lt-leb}
use borrow.Author.Rules.{rules}
use lib.Dec.{eqb}
use lib.IntN.{ℤ, pos}
use lib.ListN.{take, drop}
use lib.Pointwise.{pointwise}
use mir.Syntax.{w32}
use mir.Val.{SFits}
use mir.Facts.{to_z-of_z}
use Rattle.std.specs.Prelude.{Option, Some, None, Result, Ok, Err}
use Rattle.std.specs.Result.{OkIff, result_ok}
use Rattle.whole.proofs.Truth.{cond_yes, cond_no, by_test}
use Rattle.word.specs.Decimal.{has_minus, unsigned, lowest, negative_in, positive_in, signed_of}
use Rattle.word.proofs.Digits.{size_in, made, made_of, starts_minus}
use Rattle.word.proofs.decimal.signed_of.Goals as goal

-- the answer, said of what the digits are: without a minus, and with one
plain : (most : ℕ) (w : List ℕ) {s : Option ℕ} → pointwise eqb (take 1 w) (45 ∷ []) ≡ false → s ≡ size_in most w → signed_of most w ≡ made positive_in None s
unfolding signed_of unsigned
plain most w m e =
    let h : has_minus w ≡ false = sym (starts_minus w) ∙ m in
    rw h (made_of positive_in None most w e)

minus : (most : ℕ) (w u : List ℕ) {s : Option ℕ} → pointwise eqb (take 1 w) (45 ∷ []) ≡ true → u ≡ drop 1 w → s ≡ size_in most u →
    signed_of most w ≡ made negative_in None s
unfolding signed_of unsigned
minus most w u m f e =
    let h : has_minus w ≡ true = sym (starts_minus w) ∙ m in
    rw h (made_of negative_in None most (drop 1 w) (e ∙ ap (size_in most) f))

-- what the conversion to 32 bits answers
within : {E : Type 0} (n : ℕ) (r : Result ℤ E) → OkIff r (SFits w32 (pos n)) (pos n) → result_ok r ≡ positive_in n
within n (Ok z) h = let k = h.0 in ap Some h.1 ∙ sym (cond_no _ _ (lt-leb lowest n (omega (arith, k.sfits))))
within n (Err e) h = sym (cond_yes _ _ (le-leb lowest n (by_test (lib.Dec.leb lowest n) (λ t. omega (arith, borrow.Author.Tests.leb-true lowest n t)) (λ t. absurd (h (record { sfits = omega (arith, borrow.Author.Tests.leb-false lowest n t) }))))))

pub returns-in_err-size_of : goal.returns-in_err-size_of
returns-in_err-size_of c = c.from_residual.ensures ∙ sym (plain _ _ c.in_default.ensures.cases c.in_err-size_of.ensures)

pub returns-in_default : goal.returns-in_default
returns-in_default c =
    c.ok.ensures.value ∙ within _ _ c.try_from.ensures ∙ sym (plain _ _ c.in_default.ensures.cases c.in_ok-size_of.ensures)

pub returns-in_err-n : goal.returns-in_err-n
returns-in_err-n c =
    let h = c.in-Some.ensures.cases in
    c.from_residual-in_err-n.ensures ∙ sym (minus _ _ _ h.0 h.1 c.in_err-n.ensures)

pub returns-then-n-eq0 : goal.returns-then-n-eq0
returns-then-n-eq0 c =
    let h = c.in-Some.ensures.cases in
    sym (minus _ _ _ h.0 h.1 c.in_ok-n.ensures ∙ cond_yes _ _ (eq-eqb _ _ c.if-n-eq0.true))

pub returns-then-n-gt-LOWEST : goal.returns-then-n-gt-LOWEST
returns-then-n-gt-LOWEST c =
    let h = c.in-Some.ensures.cases in
    sym (minus _ _ _ h.0 h.1 c.in_ok-n.ensures ∙ cond_no _ _ (ne_eqb _ _ c.if-n-eq0.false) ∙ cond_yes _ _ (lt-ltb _ _ c.if-n-gt-LOWEST.true))

pub returns : goal.returns
returns c =
    let f : SFits w32 c.negated.result = search rules in
    let h = c.in-Some.ensures.cases in
    ap Some (to_z-of_z f ∙ c.negated.ensures)
    ∙ sym (minus _ _ _ h.0 h.1 c.in_ok-n.ensures ∙ cond_no _ _ (ne_eqb _ _ c.if-n-eq0.false) ∙ cond_no _ _ (le-ltb _ _ c.if-n-gt-LOWEST.false))
