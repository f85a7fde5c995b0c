use Prim.Native.Nat.{ℕ, ◌+◌, ◌≤◌}
use mathlib.Core.Path.{◌≡◌, ap, ◌∙◌}
use mathlib.Core.List.{List, [], ◌∷◌, ◌++◌}
use native.Mathlib.Omega.{arith}
use lib.ListN.{length}
use lib.Seq.{sets}
use mir.Facts.{to_z-of_z}
use Rattle.settings.specs.Table.{longest_key}
use Rattle.word.specs.Decimal.{decimal_room, decimal}
use Rattle.word.specs.End.{feed}
use Rattle.word.proofs.Shows.{decimal_room_lem}
use Rattle.writer.proofs.Rows.{key_few}
use Rattle.writer.proofs.Writes.{line_stored}
use borrow.Author.Rules.{rules}
use Rattle.writer.proofs.put_line.Goals as goal
use Rattle.writer.proofs.put_line.Goals.{After-put_decimal, After-key-key}

-- the key has at most eight bytes
short : (c : After-key-key) → length c.key-key.result.now ≤ longest_key
short c = rw c.key-key.ensures (key_few c.args.row (search rules))

-- what was put after the key is the decimal
told : (c : After-put_decimal) →
    let w = decimal c.args.x in
    (c.put_decimal.result ≡ length w) × (c.put_decimal.new.buffer ≡ sets c.put.new.buffer (c.args.at + length c.key-key.result.now) w)
told c = (rw (to_z-of_z c.ranges.x) at c.put_decimal.ensures.value, rw (to_z-of_z c.ranges.x) at c.put_decimal.ensures.buffer_after)

-- and so it has at most eleven bytes
few : (c : After-put_decimal) → c.put_decimal.result ≤ decimal_room
few c = omega (arith, (told c).0, decimal_room_lem c.args.x c.ranges.x)

pub overflow_add-end : goal.overflow_add-end
overflow_add-end c =
    let k = short (goal.at.overflow_add-end c).After-key-key in
    let h = few (goal.at.overflow_add-end c).After-put_decimal in
    record { fits = omega (arith, c.requires) }

pub overflow_add-result : goal.overflow_add-result
overflow_add-result c =
    let k = short (goal.at.overflow_add-result c).After-key-key in
    let h = few (goal.at.overflow_add-result c).After-put_decimal in
    record { fits = omega (arith, c.requires) }

pub returns-clause-buffer_after : goal.returns-clause-buffer_after
returns-clause-buffer_after c =
    let t = told (goal.at.returns-clause-buffer_after c).After-put_decimal in
    line_stored c.args.buffer.now c.args.at c.key-key.result.now (decimal c.args.x)
    c.put.ensures
    t.1
    c.put-2.ensures
    (omega arith)
    (omega (arith, t.0))
    ∙ ap (λ (k : List ℕ). sets c.args.buffer.now c.args.at (k ++ (decimal c.args.x ++ (feed ∷ [])))) c.key-key.ensures
