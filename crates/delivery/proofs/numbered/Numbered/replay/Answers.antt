use mathlib.Core.Path.{sym, ◌∙◌}
use Rattle.refusal.proofs.promises.Codes.{refused_not_0}
use Rattle.delivery.proofs.ReplayOrder.{stops, admitted}
use Rattle.delivery.proofs.numbered.Numbered.replay.Goals as goal

pub returns-in-Err : goal.returns-in-Err
returns-in-Err c =
    let h = c.in-Err.ensures in
    let b = stops c.args.self c.args.first c.args.samples.now c.args.out.now (λ e. refused_not_0 c.in-Err.refusal (h ∙ e)) in
    record { value = rw h b.0; out_after = b.1 }

pub replayed-requires : goal.replayed-requires
replayed-requires c =
    let a = admitted c.args.self c.args.first _ _ (sym c.in_default.ensures) in
    (a.0, a.1.long, a.1.numbers)

pub returns-in-Ok : goal.returns-in-Ok
returns-in-Ok c =
    let a = admitted c.args.self c.args.first _ _ (sym c.in_default.ensures) in
    rw (← a.1.next) at c.in-Ok.ensures

pub returns-in-Err-replayed : goal.returns-in-Err-replayed
returns-in-Err-replayed c =
    let a = admitted c.args.self c.args.first _ _ (sym c.in_default.ensures) in
    rw (← a.1.next) at c.in-Err-replayed.ensures
