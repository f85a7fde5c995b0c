use mathlib.Core.Path.{sym}
use native.Mathlib.Omega.{arith}
use Rattle.delivery.proofs.ReplayOrder.{numbers_1, numbers_3, numbers_12, numbers_13, numbers_0}
use Rattle.delivery.proofs.numbered.Numbered.check_numbers.Goals as goal

pub returns-then-first-last : goal.returns-then-first-last
returns-then-first-last c = sym (numbers_1 c.args.self c.args.first c.args.count c.args.room c.if-first-last.true)

pub returns-then-first-last-gt1 : goal.returns-then-first-last-gt1
returns-then-first-last-gt1 c = sym (numbers_3 c.args.self c.args.first c.args.count c.args.room c.if-first-last.false (omega arith))

pub returns-then-room-count : goal.returns-then-room-count
returns-then-room-count c =
    sym (numbers_12 c.args.self c.args.first c.args.count c.args.room c.if-first-last.false (omega arith) c.if-room-count.true)

pub returns-then-last-count : goal.returns-then-last-count
returns-then-last-count c =
    sym (numbers_13 c.args.self c.args.first c.args.count c.args.room c.if-first-last.false (omega arith) c.if-room-count.false c.if-last-count.true)

pub returns : goal.returns
returns c =
    sym (numbers_0 c.args.self c.args.first c.args.count c.args.room c.if-first-last.false (omega arith) c.if-room-count.false c.if-last-count.false)
