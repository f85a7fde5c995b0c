use Prim.Native.Nat.{◌≤◌}
use mathlib.Core.Path.{◌≡◌, refl}
use mathlib.Core.List.{[], ◌∷◌}
use native.Mathlib.Omega.{arith}
use lib.ListN.{length}
use lib.Seq.{sets}
use mir.Facts.{to_z-of_z}
use Rattle.word.specs.End.{feed}
use Rattle.word.specs.Decimal.{decimal}
use Rattle.word.proofs.Shows.{decimal_room_lem}
use Rattle.word.proofs.Puts.{Puts, puts_none, puts_more, puts_all}
use Rattle.answer.specs.Oven.{output_line}
use Rattle.answer.proofs.Verdicts.{judges_answered}
use Rattle.answer.proofs.oven.answer.Goals as goal
use Rattle.answer.proofs.oven.answer.Goals.{After-put_decimal-end}

-- what was put is the decimal of the output
told : (c : After-put_decimal-end) →
    (c.put_decimal-end.result ≡ length (decimal c.args.output)) × (c.put_decimal-end.new.buffer ≡ sets c.args.out.now 0 (decimal c.args.output))
told c = (rw (to_z-of_z c.ranges.output) at c.put_decimal-end.ensures.value, rw (to_z-of_z c.ranges.output) at c.put_decimal-end.ensures.buffer_after)

few : (c : After-put_decimal-end) → c.put_decimal-end.result ≤ 11
few c =
    rw (told c).0 (decimal_room_lem c.args.output c.ranges.output)

pub overflow_add-result : goal.overflow_add-result
overflow_add-result c = let a = few (goal.at.overflow_add-result c).After-put_decimal-end in omega arith

pub returns : goal.returns
returns c =
    let a : Puts c.args.out.now 0 (decimal c.args.output) _ c.put_decimal-end.result = puts_more puts_none (decimal c.args.output) (told (goal.at.returns c).After-put_decimal-end).1 (omega (arith, (told (goal.at.returns c).After-put_decimal-end).0)) in
    let b = puts_all (puts_more a (feed ∷ []) c.put.ensures refl) (output_line c.args.output) refl in
    let x = few (goal.at.returns c).After-put_decimal-end in
    judges_answered c.args.state (output_line c.args.output) b (omega arith)
