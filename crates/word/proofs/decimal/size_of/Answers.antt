use Prim.Native.Nat.{◌<◌}
use mathlib.Core.Path.{sym, ◌∙◌}
use native.Mathlib.Omega.{arith}
use borrow.Author.Tests.{eqb-true, eqb-false}
use lib.ListN.{length}
use Rattle.whole.proofs.Truth.{so, never, cond_no}
use Rattle.word.specs.Decimal.{size_of}
use Rattle.word.proofs.Digits.{unsized, size_if_digits}
use Rattle.word.proofs.decimal.size_of.Goals as goal

pub returns-then-is_empty : goal.returns-then-is_empty
returns-then-is_empty c =
    let none = eqb-true _ _ (so c.is_empty.ensures c.if-is_empty.true) in
    sym (cond_no _ _ (unsized _ _ (λ s. omega (arith, s.some, none))))

pub returns-then-most-length : goal.returns-then-most-length
returns-then-most-length c = sym (cond_no _ _ (unsized _ _ (λ s. omega (arith, s.few))))

pub returns-then-leading_zero : goal.returns-then-leading_zero
returns-then-leading_zero c = sym (cond_no _ _ (unsized _ _ (λ s. never (sym s.lead ∙ c.if-leading_zero.true))))

pub loop-byte-init : goal.loop-byte-init
unfolding size_of
loop-byte-init c =
    let a = c.args in
    let some = eqb-false _ _ (so c.is_empty.ensures c.if-is_empty.false) in
    let h : 0 < length a.word.now = omega (arith, some) in
    (omega arith, omega arith, rw (size_if_digits a.most a.word.now (omega arith) (omega arith) c.if-leading_zero.false))
