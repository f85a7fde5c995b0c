use Prim.Native.Nat.{◌+◌}
use mathlib.Core.Path.{◌≡◌, sym, ap, ap₂, ◌∙◌}
use lib.ListN.{length}
use Rattle.std.proofs.Common.{Err, rules}
use Rattle.refusal.proofs.promises.Codes.{refused_not_0}
use Rattle.memory.specs.declared.Memory.{Memory}
use Rattle.record.specs.declared.Loop.{Loop}
use Rattle.pid.specs.Play.{Played}
use Rattle.delivery.specs.declared.numbered.Numbered.{Numbered}
use Rattle.delivery.specs.Replay.{refused_of}
use Rattle.pid.proofs.Plays.{played_done}
use Rattle.delivery.proofs.Replays.{record_is, filled_front, played_stops, played_through}
use Rattle.delivery.proofs.numbered.Numbered.replayed.Goals as goal

pub returns-in_err-played : goal.returns-in_err-played
returns-in_err-played c =
    let bad = c.in_err-played.field-0.0 in
    let r : c.from_residual.result ≡ Err bad = search rules in
    let e = rw c.in_err-played.was at c.play-played.ensures.value in
    let z = ap (λ (p : Played). p.code) e in
    let b = played_stops c.args.self c.args.samples.now c.args.out.now c.requires.0 c.requires.1 c.requires.2 (λ q. refused_not_0 bad.refusal (z ∙ q)) in
    record { value = rw r (ap (λ (p : Played). refused_of c.args.self p.code p.place) e ∙ b.0); out_after = c.play-played.ensures.out_after ∙ b.1 }

pub returns-clause-value : goal.returns-clause-value
returns-clause-value c =
    let e = rw c.in_ok-played.was at c.play-played.ensures.value in
    let z = sym (ap (λ (p : Played). p.code) e) in
    let b = played_through c.args.self c.args.samples.now c.args.out.now c.requires.0 c.requires.1 c.requires.2 z in
    let d = played_done c.args.self.state c.args.samples.now c.args.out.now z in
    let wrote = c.play-played.ensures.out_after ∙ d.list in
    ap (λ (x : Numbered). record { code = 0; place = 0; count = length c.args.samples.now; state = x })
    (ap₂ (λ (l : Loop) (m : Memory). record { state = l; memory = m })
    (ap (λ (p : Played). p.state) e ∙ d.state)
    (c.fill.ensures ∙ filled_front c.args.self.memory (c.args.self.memory.number + length c.args.samples.now) c.args.self.state c.args.samples.now c.args.out.now _ wrote)
    ∙ sym (record_is c.args.self c.args.samples.now b.0 b.1))
    ∙ b.2.0

pub returns-clause-out_after : goal.returns-clause-out_after
returns-clause-out_after c =
    let e = rw c.in_ok-played.was at c.play-played.ensures.value in
    let z = sym (ap (λ (p : Played). p.code) e) in
    let b = played_through c.args.self c.args.samples.now c.args.out.now c.requires.0 c.requires.1 c.requires.2 z in
    c.play-played.ensures.out_after ∙ b.2.1
