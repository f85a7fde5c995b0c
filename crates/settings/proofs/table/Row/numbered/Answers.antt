use Prim.Native.Nat.{◌≤◌}
use mir.Facts.{to_z-of_z}
use mir.Syntax.{w32}
use native.Mathlib.Omega.{arith}
use Rattle.word.proofs.Shows.{shown_room}
use Rattle.settings.proofs.Rows.{numbered_is}
use borrow.Author.Rules.{rules}
use Rattle.settings.proofs.table.Row.numbered.Goals as goal
use Rattle.settings.proofs.table.Row.numbered.Goals.{After-put_decimal}

-- the set's number has few digits
few : (c : After-put_decimal) → c.put_decimal.result ≤ 10
few c = rw c.put_decimal.ensures.value (shown_room _ (omega arith))

pub overflow_add-end : goal.overflow_add-end
overflow_add-end c = omega (arith, few (goal.at.overflow_add-end c).After-put_decimal)

pub overflow_add-result : goal.overflow_add-result
overflow_add-result c = omega (arith, few (goal.at.overflow_add-result c).After-put_decimal)

pub returns : goal.returns
returns c =
    let a = c.args in
    numbered_is a.self a.k c.put_decimal.result c.put_decimal.ensures.value c.put_decimal.ensures.buffer_after c.put.ensures (to_z-of_z {w = w32} (search rules)) (to_z-of_z {w = w32} (search rules))
