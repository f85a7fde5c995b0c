use Prim.Native.Nat.{◌+◌}
use mathlib.Core.Path.{◌≡◌, refl, ◌∙◌}
use mathlib.Core.Bool.{false}
use lib.Dec.{ltb}
use lib.ListN.{length}
use Rattle.whole.proofs.Truth.{so, cond_yes, cond_no}
use Rattle.stream.specs.Part.{line_most}
use Rattle.stream.specs.Feed.{idle, line_of}
use Rattle.stream.proofs.Steps.{step_by, step_quiet}
use Rattle.stream.proofs.run.Run.take.Goals as goal
use Rattle.stream.proofs.run.Run.take.Goals.{Else-lacks_room}

-- past the test there is room
short : (c : Else-lacks_room) → ltb line_most (c.args.self.part.len + length c.args.more.now) ≡ false
short c = so c.lacks_room.ensures c.if-lacks_room.false

pub returns-then-self : goal.returns-then-self
unfolding line_of
returns-then-self c = step_by (cond_yes (idle c.args.self) _ c.if-self.true) (step_quiet refl)

pub returns-then-lacks_room : goal.returns-then-lacks_room
unfolding line_of
returns-then-lacks_room c = step_by (cond_no _ _ c.if-self.false ∙ cond_yes _ _ (so c.lacks_room.ensures c.if-lacks_room.true)) c.refuse.ensures

pub returns-then-fed : goal.returns-then-fed
unfolding line_of
returns-then-fed c = step_by (cond_no _ _ c.if-self.false ∙ cond_no _ _ (short (goal.at.returns-then-fed c).Else-lacks_room) ∙ cond_yes _ _ c.if-fed.true) c.line.ensures

pub returns : goal.returns
unfolding line_of
returns c = step_by (cond_no _ _ c.if-self.false ∙ cond_no _ _ (short (goal.at.returns c).Else-lacks_room) ∙ cond_no _ _ c.if-fed.false) (step_quiet c.grown.ensures)
