use Prim.Native.Nat.{ℕ, ◌≤◌}
use mathlib.Core.Path.{◌≡◌, sym, ap, ◌∙◌}
use native.Mathlib.Omega.{arith}
use lib.IntN.{nat_abs}
use lib.ListN.{length}
use mir.Syntax.{w32}
use mir.Val.{Fits}
use mir.Facts.{to_z-of_z}
use Rattle.word.specs.Decimal.{shown, padded}
use Rattle.word.proofs.Signs.{abs_fits, decimal_neg}
use Rattle.word.proofs.Shows.{padded_more, decimal_room_lem, shown_room}
use Rattle.word.proofs.decimal.I32Decimal.shown.Goals as goal
use Rattle.word.proofs.decimal.I32Decimal.shown.Goals.{After-shown-text}

-- the digits are those of the magnitude, and they leave room for a minus
told : (c : After-shown-text) → c.shown-text.result ≡ padded (shown (nat_abs c.args.self))
told c = c.shown-text.ensures.value ∙ ap (λ (n : ℕ). padded (shown n)) (rw (to_z-of_z c.ranges.self) at c.unsigned_abs.ensures.value)

room : (c : After-shown-text) → length (shown (nat_abs c.args.self)) ≤ 10
room c =
    let f : Fits w32 (nat_abs c.args.self) = abs_fits c.args.self c.ranges.self in
    shown_room (nat_abs c.args.self) (omega (arith, f.fits))

pub overflow_sub-text : goal.overflow_sub-text
overflow_sub-text c =
    let t = (goal.at.overflow_sub-text c).After-shown-text in
    let r = room t in
    rw (told t) (omega arith)

pub returns-then-self-lt0-clause-value : goal.returns-then-self-lt0-clause-value
returns-then-self-lt0-clause-value c =
    let t = (goal.at.returns-then-self-lt0-clause-value c).After-shown-text in
    rw (told t) (padded_more (shown (nat_abs c.args.self)) 45 (room t) ∙ ap padded (sym (decimal_neg c.args.self (rw (to_z-of_z c.ranges.self) at c.if-self-lt0.true))))

pub returns-then-self-lt0-clause-room : goal.returns-then-self-lt0-clause-room
returns-then-self-lt0-clause-room c = decimal_room_lem c.args.self c.ranges.self
