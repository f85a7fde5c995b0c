use mathlib.Core.Path.{◌≡◌, sym, ap, ◌∙◌}
use lib.IntN.{pos}
use mir.Syntax.{w32}
use mir.Facts.{to_z-of_z}
use Rattle.delivery.specs.Replay.{Replayed}
use Rattle.settings.specs.Settings.{settings_of}
use Rattle.port.specs.Port.{ready_of, code_of, place_of, out_of}
use Rattle.port.proofs.Read.{read, unread}
use borrow.Author.Rules.{rules}
use Rattle.port.proofs.port_replay.Goals as goal

pub returns-in-Err : goal.returns-in-Err
unfolding code_of place_of out_of
returns-in-Err c =
    let r = unread c.args.values.now (sym c.settings_in.ensures ∙ c.in-Err.is) in
    record { value = rw (r.0, c.code_for_c-in-Err.ensures, ← r.1); place_after = rw r.0; out_after = rw r.0 }

pub returns-in-Ok-outcome : goal.returns-in-Ok-outcome
unfolding code_of place_of out_of
returns-in-Ok-outcome c =
    let r = read c.args.values.now (sym c.settings_in.ensures ∙ c.in-Ok.is) in
    let l : c.ready.result ≡ ready_of (settings_of c.args.values.now) c.args.set c.args.target c.args.before c.args.held =
    rw r.1 (rw (to_z-of_z c.ranges.set, to_z-of_z c.ranges.target, to_z-of_z c.ranges.before, to_z-of_z c.ranges.held) at c.ready.ensures) in
    let e = rw c.in-Ok-outcome.is at c.replay.ensures in
    record {
      value = rw (r.0, ← l) (ap (λ (x : Replayed). pos x.code) e.value);
      place_after = rw (r.0, ← l) (ap (λ (x : Replayed). x.place) e.value);
      out_after = rw (r.0, ← l) e.out_after;
    }

pub returns-in-Err-outcome : goal.returns-in-Err-outcome
unfolding code_of place_of out_of
returns-in-Err-outcome c =
    let r = read c.args.values.now (sym c.settings_in.ensures ∙ c.in-Ok.is) in
    let l : c.ready.result ≡ ready_of (settings_of c.args.values.now) c.args.set c.args.target c.args.before c.args.held =
    rw r.1 (rw (to_z-of_z c.ranges.set, to_z-of_z c.ranges.target, to_z-of_z c.ranges.before, to_z-of_z c.ranges.held) at c.ready.ensures) in
    let e = rw c.in-Err-outcome.is at c.replay.ensures in
    record {
      value = rw (r.0, ← l) (to_z-of_z {w = w32} (search rules) ∙ c.code_for_c.ensures ∙ ap (λ (x : Replayed). pos x.code) e.value);
      place_after = rw (r.0, ← l) (ap (λ (x : Replayed). x.place) e.value);
      out_after = rw (r.0, ← l) e.out_after;
    }
