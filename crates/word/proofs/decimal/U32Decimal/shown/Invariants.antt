-- The loop's invariant: the digits of what is left are still to be put before those that stand there.
use Rattle.word.proofs.Shows.{Partly}
use Rattle.word.proofs.decimal.U32Decimal.shown.Given as goal

abbrev pub invariant-loop-left : goal.invariant-loop-left
invariant-loop-left l = Partly l.self l.left l.from l.bytes

abbrev pub decreases-loop-left : goal.decreases-loop-left
decreases-loop-left l = l.left
