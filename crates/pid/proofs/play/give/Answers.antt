use Rattle.pid.specs.Told.{moving_told}
use mathlib.Core.Path.{◌≡◌, ap, sym, ◌∙◌}
use mathlib.Core.Bool.{true}
use mathlib.Core.List.{List}
use borrow.Author.Rules.{rules}
use lib.IntN.{ℤ}
use mir.Syntax.{w32}
use mir.Val.{to_z, of_z}
use mir.Facts.{to_z-of_z}
use Rattle.temperature.specs.Temperature.{ranged, raw_after}
use Rattle.window.specs.Means.{front_filled}
use Rattle.record.proofs.Fit.{loop_fit}
use Rattle.pid.specs.Law.{fixed_of, moving_of}
use Rattle.pid.specs.Play.{reads_of, moved_after, moved_outputs}
use Rattle.pid.proofs.Shapes.{moving_with}
use Rattle.pid.proofs.Plays.{after_moved, outputs_moved, reads_ranged}
use Rattle.pid.proofs.play.give.Goals as goal
use Rattle.pid.proofs.play.give.Goals.{After-raw_after, After-run-m, Start}

good : (s : Start) → ranged (reads_of s.args.l s.args.samples.now) ≡ true
good s = reads_ranged s.args.l s.args.samples.now s.requires.0 s.requires.1

-- what the loop over the means gives, said of the record
m_is : (c : After-run-m) →
    moving_told c.run-m.result ≡ moved_after (fixed_of c.args.l) (moving_of c.args.l) (reads_of c.args.l c.args.samples.now)
m_is c =
    (rw (c.fixed.ensures, c.moving.ensures) at c.run-m.ensures.value)
    ∙ ap (moved_after (fixed_of c.args.l) (moving_of c.args.l)) c.requires.3

-- the raw temperature after the samples
raw_is : (c : After-raw_after) →
    to_z w32 (of_z w32 c.raw_after.result) ≡ raw_after c.args.l.raw c.args.samples.now
raw_is c =
    to_z-of_z {w = w32} (search rules) ∙ c.raw_after.ensures ∙ ap (λ (x : ℤ). raw_after x c.args.samples.now) (to_z-of_z (loop_fit c.args.l c.well_formed.0).raw)

pub run-m-requires : goal.run-m-requires
run-m-requires c = (c.requires.2, ap ranged c.requires.3 ∙ good (goal.at.run-m-requires c).Start)

pub returns-clause-value : goal.returns-clause-value
returns-clause-value c =
    c.with_moving.ensures ∙ moving_with c.args.l c.after.ensures (raw_is (goal.at.returns-clause-value c).After-raw_after) (m_is (goal.at.returns-clause-value c).After-run-m) ∙ sym (after_moved c.args.l c.args.l.window c.args.l.raw (moving_of c.args.l) c.args.samples.now)

pub returns-clause-out_after : goal.returns-clause-out_after
returns-clause-out_after c =
    (rw (c.fixed.ensures, c.moving.ensures) at c.run-m.ensures.out_after)
    ∙ ap (λ (us : List ℤ). front_filled us c.args.out.now) (ap (moved_outputs (fixed_of c.args.l) (moving_of c.args.l)) c.requires.3 ∙ sym (outputs_moved c.args.l c.args.l.window c.args.l.raw (moving_of c.args.l) c.args.samples.now))
