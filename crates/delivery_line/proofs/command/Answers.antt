use mathlib.Core.Path.{◌≡◌, sym, ◌∙◌}
use mathlib.Core.Bool.{true, false}
use native.Mathlib.Omega.{arith}
use borrow.Author.Tests.{eq-eqb, ne_eqb}
use lib.IntN.{ℤ, pos}
use mir.Syntax.{w32}
use mir.Val.{SFits, of_z}
use mir.Facts.{to_z-of_z}
use Rattle.whole.specs.Numbers.{eq_z}
use Rattle.whole.proofs.Truth.{so}
use Rattle.whole.proofs.Bits.{same_bits}
use Rattle.delivery_line.specs.Line.{is_target, is_sample, is_put, is_set, is_hold, is_automatic, command_of}
use Rattle.delivery_line.proofs.command.Goals as goal
use Rattle.delivery_line.proofs.command.Goals.{Else-second-ne0, Else-value-ne0, Else-same_word, Else-same_word-2, Else-same_word-3, Else-same_word-4, Else-same_word-5, Else-same_word-6, Then-second-ne0, Then-value-ne0, Then-same_word, Then-same_word-2, Then-same_word-3, Then-same_word-4, Then-same_word-5, Then-same_word-6}

-- a test against 0, said of the number
zero : (z : ℤ) → SFits w32 z → of_z w32 z ≡ 0 → eq_z z (pos 0) ≡ true
zero z f e = sym (same_bits w32 z (pos 0) f (record { sfits = omega arith })) ∙ eq-eqb _ _ e

not_zero : (z : ℤ) → SFits w32 z → (of_z w32 z ≡ 0 → ⊥) → eq_z z (pos 0) ≡ false
not_zero z f e = sym (same_bits w32 z (pos 0) f (record { sfits = omega arith })) ∙ ne_eqb _ _ e

yes_1 : (c : Then-same_word) → is_target c.args.word.now ≡ true
yes_1 c = so c.same_word.ensures c.if-same_word.true

no_1 : (c : Else-same_word) → is_target c.args.word.now ≡ false
no_1 c = so c.same_word.ensures c.if-same_word.false

yes_2 : (c : Then-second-ne0) → eq_z c.args.second (pos 0) ≡ false
yes_2 c = not_zero _ c.ranges.second c.if-second-ne0.true

no_2 : (c : Else-second-ne0) → eq_z c.args.second (pos 0) ≡ true
no_2 c = zero _ c.ranges.second c.if-second-ne0.false

yes_3 : (c : Then-same_word-2) → is_sample c.args.word.now ≡ true
yes_3 c = so c.same_word-2.ensures c.if-same_word-2.true

no_3 : (c : Else-same_word-2) → is_sample c.args.word.now ≡ false
no_3 c = so c.same_word-2.ensures c.if-same_word-2.false

yes_4 : (c : Then-same_word-3) → is_put c.args.word.now ≡ true
yes_4 c = so c.same_word-3.ensures c.if-same_word-3.true

no_4 : (c : Else-same_word-3) → is_put c.args.word.now ≡ false
no_4 c = so c.same_word-3.ensures c.if-same_word-3.false

yes_5 : (c : Then-same_word-4) → is_set c.args.word.now ≡ true
yes_5 c = so c.same_word-4.ensures c.if-same_word-4.true

no_5 : (c : Else-same_word-4) → is_set c.args.word.now ≡ false
no_5 c = so c.same_word-4.ensures c.if-same_word-4.false

yes_6 : (c : Then-value-ne0) → eq_z c.args.value (pos 0) ≡ false
yes_6 c = not_zero _ c.ranges.value c.if-value-ne0.true

no_6 : (c : Else-value-ne0) → eq_z c.args.value (pos 0) ≡ true
no_6 c = zero _ c.ranges.value c.if-value-ne0.false

yes_7 : (c : Then-same_word-5) → is_hold c.args.word.now ≡ true
yes_7 c = so c.same_word-5.ensures c.if-same_word-5.true

no_7 : (c : Else-same_word-5) → is_hold c.args.word.now ≡ false
no_7 c = so c.same_word-5.ensures c.if-same_word-5.false

yes_8 : (c : Then-same_word-6) → is_automatic c.args.word.now ≡ true
yes_8 c = so c.same_word-6.ensures c.if-same_word-6.true

no_8 : (c : Else-same_word-6) → is_automatic c.args.word.now ≡ false
no_8 c = so c.same_word-6.ensures c.if-same_word-6.false

pub returns-then-same_word : goal.returns-then-same_word
unfolding command_of
returns-then-same_word c = rw (yes_1 (goal.at.returns-then-same_word c).Then-same_word, to_z-of_z c.ranges.value, to_z-of_z c.ranges.second)

pub returns-then-second-ne0 : goal.returns-then-second-ne0
unfolding command_of
returns-then-second-ne0 c = rw (no_1 (goal.at.returns-then-second-ne0 c).Else-same_word, yes_2 (goal.at.returns-then-second-ne0 c).Then-second-ne0)

pub returns-then-same_word-2 : goal.returns-then-same_word-2
unfolding command_of
returns-then-same_word-2 c = rw (no_1 (goal.at.returns-then-same_word-2 c).Else-same_word, no_2 (goal.at.returns-then-same_word-2 c).Else-second-ne0, yes_3 (goal.at.returns-then-same_word-2 c).Then-same_word-2, to_z-of_z c.ranges.value)

pub returns-then-same_word-3 : goal.returns-then-same_word-3
unfolding command_of
returns-then-same_word-3 c = rw (no_1 (goal.at.returns-then-same_word-3 c).Else-same_word, no_2 (goal.at.returns-then-same_word-3 c).Else-second-ne0, no_3 (goal.at.returns-then-same_word-3 c).Else-same_word-2, yes_4 (goal.at.returns-then-same_word-3 c).Then-same_word-3, to_z-of_z c.ranges.value)

pub returns-then-same_word-4 : goal.returns-then-same_word-4
unfolding command_of
returns-then-same_word-4 c = rw (no_1 (goal.at.returns-then-same_word-4 c).Else-same_word, no_2 (goal.at.returns-then-same_word-4 c).Else-second-ne0, no_3 (goal.at.returns-then-same_word-4 c).Else-same_word-2, no_4 (goal.at.returns-then-same_word-4 c).Else-same_word-3, yes_5 (goal.at.returns-then-same_word-4 c).Then-same_word-4, to_z-of_z c.ranges.value)

pub returns-then-value-ne0 : goal.returns-then-value-ne0
unfolding command_of
returns-then-value-ne0 c = rw (no_1 (goal.at.returns-then-value-ne0 c).Else-same_word, no_2 (goal.at.returns-then-value-ne0 c).Else-second-ne0, no_3 (goal.at.returns-then-value-ne0 c).Else-same_word-2, no_4 (goal.at.returns-then-value-ne0 c).Else-same_word-3, no_5 (goal.at.returns-then-value-ne0 c).Else-same_word-4, yes_6 (goal.at.returns-then-value-ne0 c).Then-value-ne0)

pub returns-then-same_word-5 : goal.returns-then-same_word-5
unfolding command_of
returns-then-same_word-5 c = rw (no_1 (goal.at.returns-then-same_word-5 c).Else-same_word, no_2 (goal.at.returns-then-same_word-5 c).Else-second-ne0, no_3 (goal.at.returns-then-same_word-5 c).Else-same_word-2, no_4 (goal.at.returns-then-same_word-5 c).Else-same_word-3, no_5 (goal.at.returns-then-same_word-5 c).Else-same_word-4, no_6 (goal.at.returns-then-same_word-5 c).Else-value-ne0, yes_7 (goal.at.returns-then-same_word-5 c).Then-same_word-5)

pub returns-then-same_word-6 : goal.returns-then-same_word-6
unfolding command_of
returns-then-same_word-6 c = rw (no_1 (goal.at.returns-then-same_word-6 c).Else-same_word, no_2 (goal.at.returns-then-same_word-6 c).Else-second-ne0, no_3 (goal.at.returns-then-same_word-6 c).Else-same_word-2, no_4 (goal.at.returns-then-same_word-6 c).Else-same_word-3, no_5 (goal.at.returns-then-same_word-6 c).Else-same_word-4, no_6 (goal.at.returns-then-same_word-6 c).Else-value-ne0, no_7 (goal.at.returns-then-same_word-6 c).Else-same_word-5, yes_8 (goal.at.returns-then-same_word-6 c).Then-same_word-6)

pub returns : goal.returns
unfolding command_of
returns c = rw (no_1 (goal.at.returns c).Else-same_word, no_2 (goal.at.returns c).Else-second-ne0, no_3 (goal.at.returns c).Else-same_word-2, no_4 (goal.at.returns c).Else-same_word-3, no_5 (goal.at.returns c).Else-same_word-4, no_6 (goal.at.returns c).Else-value-ne0, no_7 (goal.at.returns c).Else-same_word-5, no_8 (goal.at.returns c).Else-same_word-6)
