use mathlib.Core.Path.{◌≡◌, sym, ap, ◌∙◌}
use denote.Struct.Laws.{owed}
use lib.IntN.{pos}
use mir.Syntax.{w32}
use mir.Val.{SFits}
use mir.Facts.{to_z-of_z}
use Rattle.delivery.specs.contracts.numbered.Delivered as D
use Rattle.delivery.proofs.numbered.Delivered.TheLaws as D'
use Rattle.delivery.specs.Numbered.{Delivered}
use Rattle.settings.specs.Settings.{settings_of}
use Rattle.port.specs.Port.{remembering_of, late_code, late_output, late_number, late_out}
use Rattle.port.proofs.Read.{read, unread}
use borrow.Author.Rules.{rules}
use Rattle.port.proofs.port_late.Goals as goal

pub returns-in-Err : goal.returns-in-Err
unfolding late_code late_output late_number late_out
returns-in-Err c =
    let r = unread c.args.values.now (sym c.settings_in.ensures ∙ c.in-Err.is) in
    record { value = rw (r.0, c.code_for_c-in-Err.ensures, ← r.1); output_after = rw r.0; told_after = rw r.0; out_after = rw r.0 }

pub returns-in-Ok : goal.returns-in-Ok
unfolding late_code late_output late_number late_out
returns-in-Ok c =
    let r = read c.args.values.now (sym c.settings_in.ensures ∙ c.in-Ok.is) in
    let l : c.remembering-start.result ≡ remembering_of (settings_of c.args.values.now) c.args.last c.args.earlier.now c.args.answered.now = rw r.1 c.remembering-start.ensures in
    let e = rw (to_z-of_z c.ranges.value) at c.late-done.ensures in
    let f : SFits w32 c.late-done.result.output = record { sfits = (owed D.the_type D'.the_laws c.late-done.result _ c.late-done.type_inv).1.0.1 } in
    record {
      value = rw (r.0, ← l) (to_z-of_z {w = w32} (search rules) ∙ c.code_for_c.ensures ∙ ap (λ (x : Delivered). pos x.code) e.value);
      output_after = rw (r.0, ← l) (to_z-of_z f ∙ ap (λ (x : Delivered). x.output) e.value);
      told_after = rw (r.0, ← l) (ap (λ (x : Delivered). x.number) e.value);
      out_after = rw (r.0, ← l) e.out_after;
    }
