use mathlib.Core.Path.{ap, ◌∙◌}
use Rattle.temperature.specs.declared.Guard.{Guard}
use Rattle.temperature.specs.Temperature.{raw_ok}
use Rattle.record.specs.Record.{valid}
use Rattle.settings.proofs.Ranges.{meet}
use Rattle.record.proofs.Loop.is_valid.Goals as goal

pub returns : goal.returns
unfolding valid
returns c =
    meet
    (meet
    (meet
    (meet
    (meet
    (meet c.in_table.ensures c.is_ordered.ensures)
    c.places_ok.ensures)
    c.fine_ok.ensures)
    c.pending_ok.ensures)
    c.is_valid.ensures)
    (c.is_valid-2.ensures ∙ ap (λ (g : Guard). raw_ok g.primed g.raw) c.guard.ensures)
