use Prim.Native.Nat.{◌/◌, ◌≤◌}
use native.Mathlib.Omega.{arith}
use borrow.Author.Tests.{le-leb}
use lib.ListN.{length}
use Rattle.stream.specs.Run.{line_room}
use Rattle.stream.specs.Feed.{passing}
use Rattle.stream.proofs.Pieces.{ran_done}
use Rattle.stream.proofs.run.Run.feed.Goals as goal

pub returns : goal.returns
returns c =
    let n = length c.args.piece.now in
    let h : n ≤ length c.args.out.now / line_room = c.if-out-piece.false in
    let r = ran_done c.args.self (passing c.args.self c.args.piece.now) (le-leb _ _ h) (omega arith) c.pass.ensures in
    record { value = r.0; out_after = r.1.0; counts = r.1.1 }
