use Prim.Native.Nat.{◌+◌}
use mathlib.Core.Path.{sym, ap}
use native.Mathlib.Omega.{arith}
use Rattle.word.proofs.Stores.{sets_out, part_stored}
use Rattle.word.proofs.buffer.put.Goals as goal

pub returns-then-buffer-at : goal.returns-then-buffer-at
returns-then-buffer-at c = sym (sets_out c.args.buffer.now c.args.at c.args.bytes.now c.if-buffer-at.true)

pub returns : goal.returns
returns c =
    part_stored c.args.buffer.now c.args.at (c.args.at + c.min.result) c.args.bytes.now _ (omega arith) (ap (λ n. c.args.at + n) c.min.ensures) c.copy_from_slice.ensures.after
