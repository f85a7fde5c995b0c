use Prim.Native.Nat.{ℕ}
use mathlib.Core.Path.{◌≡◌, ap, ap₂, ◌∙◌}
use mir.Syntax.{w32}
use mir.Val.{to_z, of_z}
use mir.Facts.{to_z-of_z}
use Rattle.window.specs.declared.Window.{Window}
use Rattle.window.specs.Window.{taken, latest, mean_of, mean_at}
use Rattle.record.proofs.Rules.{holds_of}
use Rattle.pid.specs.Law.{read_at, sample_of}
use Rattle.pid.proofs.Sound.{read_in}
use Rattle.pid.proofs.Shapes.{moving_with}
use borrow.Author.Rules.{rules}
use Rattle.pid.proofs.law.sample.Goals as goal
use Rattle.pid.proofs.law.sample.Goals.{After-mean-2}

-- the mean of the window after the sample, said of the loop
read_is : (c : After-mean-2) → to_z w32 (of_z w32 c.mean-2.result) ≡ read_at c.args.l c.args.pv
unfolding mean_at
read_is c =
    let l = c.args.l in
    let e : c.taken-window.result ≡ taken l.window c.args.pv = c.taken-window.ensures ∙ ap (taken l.window) (to_z-of_z c.ranges.pv) in
    to_z-of_z {w = w32} (search rules) ∙ c.mean-2.ensures ∙ ap₂ (λ (m : ℕ) (w : Window). mean_of (latest m w)) c.mean.ensures e

pub sense-z-requires : goal.sense-z-requires
sense-z-requires c =
    rw (read_is (goal.at.sense-z-requires c).After-mean-2) (read_in c.args.l (holds_of c.args.l c.requires.0) c.args.pv c.requires.1)

pub returns : goal.returns
unfolding sample_of
returns c =
    let l = c.args.l in
    let z = rw (c.fixed-f.ensures, c.moving-m.ensures, read_is (goal.at.returns c).After-mean-2) at c.sense-z.ensures in
    let m = rw (c.fixed-f.ensures, c.moving-m.ensures, z) at c.act.ensures in
    let w : c.taken-window.result ≡ taken l.window c.args.pv = c.taken-window.ensures ∙ ap (taken l.window) (to_z-of_z c.ranges.pv) in
    c.with_moving.ensures ∙ moving_with l w (to_z-of_z c.ranges.pv) m
