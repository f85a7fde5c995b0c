use mathlib.Core.Path.{sym, ◌∙◌}
use native.Mathlib.Omega.{arith}
use Rattle.memory.specs.Memory.{window}
use Rattle.memory.proofs.Order.{number_zero, number_old, number_within, number_ahead, number_next}
use Rattle.memory.proofs.Memory.find.Goals as goal

pub returns-then-number-eq0 : goal.returns-then-number-eq0
returns-then-number-eq0 c = sym (number_zero _ _ _ c.if-number-eq0.true)

pub returns-then-number-last-gt1 : goal.returns-then-number-last-gt1
returns-then-number-last-gt1 c = sym (number_ahead _ _ _ c.if-last-number.true (omega arith))

pub returns-then-last-number : goal.returns-then-last-number
returns-then-last-number c = sym (number_next _ _ _ c.if-last-number.true (omega arith))

pub returns-then-back-ge-WINDOW : goal.returns-then-back-ge-WINDOW
unfolding window
returns-then-back-ge-WINDOW c = sym (number_old _ _ _ (omega arith))

pub returns : goal.returns
unfolding window
returns c = c.found.ensures ∙ sym (number_within _ _ _ (record { some = c.if-number-eq0.false; reached = omega arith; recent = omega arith }))
