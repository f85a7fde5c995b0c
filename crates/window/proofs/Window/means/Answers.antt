use mathlib.Core.Path.{◌≡◌, sym, ap, ◌∙◌}
use mathlib.Core.List.{List}
use lib.IntN.{ℤ}
use Rattle.temperature.specs.declared.Guard.{Guard}
use Rattle.temperature.specs.Temperature.{Bad, bad_of, first_code}
use Rattle.refusal.proofs.promises.Codes.{refused_not_0}
use Rattle.temperature.proofs.Ranged.{all_ranged}
use Rattle.window.proofs.Taken.{into_bad, into_short, into_front}
use Rattle.window.proofs.Window.means.Goals as goal
use Rattle.window.proofs.Window.means.Goals.{In_ok-first_bad}

-- the code of the earliest bad sample
code_is : (g : Guard) (pvs : List ℤ) {b : Bad} → b ≡ bad_of g pvs → b.code ≡ first_code g pvs
code_is g pvs = ap (λ (b : Bad). b.code)

none : (c : In_ok-first_bad) → first_code c.args.guard c.args.samples.now ≡ 0
none c = sym (code_is _ _ c.in_ok-first_bad.ensures)

pub returns-in_err-first_bad-clause-out_after : goal.returns-in_err-first_bad-clause-out_after
returns-in_err-first_bad-clause-out_after c =
    let a = c.args in
    into_bad a.m a.self a.guard a.samples.now a.out.now (λ z. refused_not_0 _ (code_is _ _ c.in_err-first_bad.ensures ∙ z))

pub returns-then-out-samples-clause-out_after : goal.returns-then-out-samples-clause-out_after
returns-then-out-samples-clause-out_after c =
    let a = c.args in
    into_short a.m a.self a.guard a.samples.now a.out.now (none (goal.at.returns-then-out-samples-clause-out_after c).In_ok-first_bad) c.if-out-samples.true

pub put_means-requires : goal.put_means-requires
put_means-requires c =
    let a = c.args in
    (all_ranged a.guard a.samples.now (none (goal.at.put_means-requires c).In_ok-first_bad), c.if-out-samples.false)

pub returns-clause-out_after : goal.returns-clause-out_after
returns-clause-out_after c =
    let a = c.args in
    c.put_means.ensures ∙ into_front a.m a.self a.guard a.samples.now a.out.now (none (goal.at.returns-clause-out_after c).In_ok-first_bad) c.if-out-samples.false
