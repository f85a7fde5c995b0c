use mathlib.Core.Path.{◌≡◌, refl, sym, ap, ◌∙◌}
use native.Mathlib.Omega.{arith}
use borrow.Author.Tests.{le-leb}
use mathlib.Core.Bool.{Bool, ◌||◌}
use Rattle.whole.proofs.Truth.{cond_yes, cond_no}
use Rattle.stream.specs.Run.{refusing}
use Rattle.stream.specs.Feed.{idle, finishing}
use Rattle.stream.proofs.Steps.{step_quiet}
use Rattle.stream.proofs.Pieces.{ran_done}
use Rattle.stream.proofs.run.Run.finish.Goals as goal

pub returns-then-self-is_empty : goal.returns-then-self-is_empty
unfolding finishing
returns-then-self-is_empty c =
    let e : finishing c.args.self ≡ idle c.args.self = cond_yes _ _ (ap (λ (b : Bool). c.args.self.ended || b) (sym c.is_empty.ensures) ∙ c.if-self-is_empty.true) in
    let r = ran_done {n = 0} c.args.self (idle c.args.self) (le-leb _ _ c.if-out-lt-ROOM.false) (omega arith) (step_quiet refl) in
    record { value = rw e r.0; out_after = rw e r.1.0; counts = r.1.1 }

pub returns : goal.returns
unfolding finishing
returns c =
    let e : finishing c.args.self ≡ refusing c.args.self 14 = cond_no _ _ (ap (λ (b : Bool). c.args.self.ended || b) (sym c.is_empty.ensures) ∙ c.if-self-is_empty.false) in
    let r = ran_done c.args.self (refusing c.args.self 14) (le-leb _ _ c.if-out-lt-ROOM.false) c.if-out-lt-ROOM.false c.refuse.ensures in
    record { value = rw e r.0; out_after = rw e r.1.0; counts = r.1.1 }
