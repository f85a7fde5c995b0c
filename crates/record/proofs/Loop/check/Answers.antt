use mir.Syntax.{w32}
use mir.Val.{SFits}
use mir.Facts.{to_z-of_z}
use Rattle.record.specs.Refusals.{refusal_of}
use borrow.Author.Rules.{rules}
use Rattle.record.proofs.Loop.check.Goals as goal

pub returns-in-Put : goal.returns-in-Put
unfolding refusal_of
returns-in-Put c = let f : SFits w32 c.in-Put.x = search rules in rw (c.in-Put.is, c.check_put.ensures, to_z-of_z f)

pub returns-in-Target : goal.returns-in-Target
unfolding refusal_of
returns-in-Target c =
    let f : SFits w32 c.in-Target.t = search rules in
    let g : SFits w32 c.in-Target.r = search rules in
    rw (c.in-Target.is, c.check_target.ensures, to_z-of_z f, to_z-of_z g)

pub returns-in-Set : goal.returns-in-Set
unfolding refusal_of
returns-in-Set c = let f : SFits w32 c.in-Set.k = search rules in rw (c.in-Set.is, c.check_set.ensures, to_z-of_z f)
