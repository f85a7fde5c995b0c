use mir.Syntax.{w32}
use mir.Val.{SFits}
use mir.Facts.{to_z-of_z}
use borrow.Author.Rules.{rules}
use Rattle.temperature.proofs.Ranged.{taken_reach}
use Rattle.record.specs.Record.{guard_of}
use Rattle.record.specs.Refusals.{refusal_of}
use Rattle.pid.specs.Law.{step_of}
use Rattle.pid.proofs.law.step.Goals as goal

pub sample-requires : goal.sample-requires
unfolding refusal_of
sample-requires c =
    let f : SFits w32 c.in-Sample.pv = search rules in
    (c.requires.0, rw (to_z-of_z f) (taken_reach (guard_of c.args.l) c.in-Sample.pv (rw c.in-Sample.is at c.requires.1)))

pub returns-in-Sample : goal.returns-in-Sample
unfolding step_of
returns-in-Sample c = let f : SFits w32 c.in-Sample.pv = search rules in rw (c.in-Sample.is, c.sample.ensures, to_z-of_z f)

pub returns-in-Hold : goal.returns-in-Hold
unfolding step_of
returns-in-Hold c = rw c.in-Hold.is c.hold.ensures

pub returns-in-Put : goal.returns-in-Put
unfolding step_of
returns-in-Put c = let f : SFits w32 c.in-Put.x = search rules in rw (c.in-Put.is, c.put.ensures, to_z-of_z f)

pub returns-in-Automatic : goal.returns-in-Automatic
unfolding step_of
returns-in-Automatic c = rw c.in-Automatic.is c.start.ensures

pub returns-in-Target : goal.returns-in-Target
unfolding step_of
returns-in-Target c =
    let f : SFits w32 c.in-Target.t = search rules in
    let g : SFits w32 c.in-Target.r = search rules in
    rw (c.in-Target.is, c.aim.ensures, to_z-of_z f, to_z-of_z g)

pub returns-in-Set : goal.returns-in-Set
unfolding step_of
returns-in-Set c = let f : SFits w32 c.in-Set.k = search rules in rw (c.in-Set.is, c.choose.ensures, c.plus.ensures, to_z-of_z f)
