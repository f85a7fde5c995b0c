use mathlib.Core.Path.{sym, ap}
use borrow.Author.Tests.{le-leb}
use Rattle.text.specs.Reader.{Reading}
use Rattle.stream.specs.Start.{begun_by, beginning, no_run}
use Rattle.stream.proofs.Steps.{step_by}
use Rattle.stream.proofs.Pieces.{ran_done}
use Rattle.stream.proofs.Starts.{line_few}
use Rattle.stream.proofs.start.begin.Goals as goal

pub begun-requires : goal.begun-requires
begun-requires c = rw (ap (λ (r : Reading). r.line) c.read_settings.ensures) (line_few c.args.settings.now)

pub returns : goal.returns
returns c =
    let j = c.args.lines in
    let room = c.if-out-lt-ROOM.false in
    let r = ran_done (no_run j) (beginning j c.args.settings.now) (le-leb _ _ room) room (step_by (sym (ap (begun_by j) c.read_settings.ensures)) c.begun.ensures) in
    record { value = r.0; out_after = r.1.0; counts = r.1.1 }
