use Prim.Native.Nat.{◌+◌, ◌%◌}
use mathlib.Core.Path.{refl}
use mathlib.Core.List.{[], ◌∷◌}
use native.Mathlib.Omega.{arith}
use Rattle.word.proofs.Decimals.{shown_last}
use Rattle.word.proofs.Shows.{partly_more}
use Rattle.word.proofs.decimal.U32Decimal.shown.Goals as goal

pub loop-left-init : goal.loop-left-init
loop-left-init c = record {
  tail = (48 + c.args.self % 10) ∷ [];
  ends = record { long = refl; are = refl };
  room = omega arith;
  digits = shown_last c.args.self;
}

pub loop-left-preserved : goal.loop-left-preserved
loop-left-preserved c =
    let l = c.loop-left in
    partly_more c.args.self l.left l.from l.bytes c.loop-left-test.true l.invariant
