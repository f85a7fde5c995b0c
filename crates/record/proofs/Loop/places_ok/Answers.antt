use mathlib.Core.Path.{◌∙◌}
use mir.Facts.{to_z-of_z}
use Rattle.temperature.proofs.InRange.{contains_is}
use Rattle.record.proofs.Fit.{loop_fit}
use Rattle.record.proofs.Loop.places_ok.Goals as goal

pub returns : goal.returns
returns c =
    let f = loop_fit c.args.self c.well_formed.0 in
    let w = c.new.ensures in
    let t = c.new-2.ensures in
    let r = c.new-3.ensures in
    let u = c.new-4.ensures in
    rw (
      c.contains.ensures.value ∙ contains_is _ w.start w.end w.exhausted,
      c.contains-2.ensures.value ∙ contains_is _ t.start t.end t.exhausted,
      c.contains-3.ensures.value ∙ contains_is _ r.start r.end r.exhausted,
      c.contains-4.ensures.value ∙ contains_is _ u.start u.end u.exhausted,
      to_z-of_z f.settings.lo,
      to_z-of_z f.settings.hi,
    )
