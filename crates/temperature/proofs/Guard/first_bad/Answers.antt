use mathlib.Core.Path.{◌≡◌, sym, ap, ◌∙◌}
use native.Mathlib.Omega.{arith}
use borrow.Author.Rules.{rules}
use lib.IntN.{pos}
use lib.ListN.{get_or}
use mir.Facts.{to_z-of_z}
use mir.Syntax.{w32}
use Rattle.refusal.specs.Refusal.{code_in}
use Rattle.temperature.specs.Temperature.{code_of, past}
use Rattle.refusal.proofs.promises.Codes.{refused_not_0}
use Rattle.temperature.proofs.Earliest.{taken_here, bad_here, none_left, bad_is}
use Rattle.temperature.proofs.Guard.first_bad.Goals as goal
use Rattle.temperature.proofs.Guard.first_bad.Goals.{After-past-guard, After-check}

code_is : (c : After-check) → code_in c.check.result ≡ code_of c.loop-place.guard (get_or c.args.samples.now c.loop-place.place (pos 0))
code_is c = c.check.ensures ∙ ap (code_of _) (to_z-of_z {w = w32} (search rules))

past_is : (c : After-past-guard) → c.past-guard.result ≡ past c.loop-place.guard (get_or c.args.samples.now c.loop-place.place (pos 0))
past_is c = c.past-guard.ensures ∙ ap (past c.loop-place.guard) (to_z-of_z {w = w32} (search rules))

pub returns-in-Err : goal.returns-in-Err
returns-in-Err c =
    let e = rw c.in-Err.is at (code_is (goal.at.returns-in-Err c).After-check) in
    let b = bad_here c.loop-place.guard c.args.samples.now c.loop-place.place c.loop-place-test.true (λ z. refused_not_0 c.in-Err.refusal (e ∙ z)) in
    bad_is (e ∙ sym b.1 ∙ sym c.loop-place.invariant.1) (omega (arith, b.0, c.loop-place.invariant.0))

pub loop-place-preserved : goal.loop-place-preserved
loop-place-preserved c =
    let p = past_is (goal.at.loop-place-preserved c).After-past-guard in
    let e = rw c.in_default.is at (code_is (goal.at.loop-place-preserved c).After-check) in
    let b = taken_here c.loop-place.guard c.args.samples.now c.loop-place.place c.loop-place-test.true (sym e) in
    (rw p (omega (arith, b.0, c.loop-place.invariant.0)), rw p (c.loop-place.invariant.1 ∙ b.1))

pub returns : goal.returns
returns c =
    let n = none_left c.loop-place.guard c.args.samples.now c.loop-place.place (omega arith) in
    bad_is (sym n.1 ∙ sym c.loop-place.invariant.1) (omega (arith, n.0, c.loop-place.invariant.0))
