use mathlib.Core.Path.{sym, ap, ◌∙◌}
use Rattle.command.specs.declared.Command.TheVariants.{Automatic}
use Rattle.delivery.specs.Numbered.{Made, Delivered, delivered_of}
use Rattle.answer.specs.declared.judge.Lines.{Lines}
use Rattle.stream.specs.Start.{first_loop}
use Rattle.stream.proofs.start.first_loop.Goals as goal

pub returns-in-Samples : goal.returns-in-Samples
unfolding first_loop
returns-in-Samples c =
    ap (λ (d : Delivered). d.state) (c.deliver.ensures ∙ ap (λ (m : Made). delivered_of m.state 1 Automatic) c.make.ensures)
    ∙ sym (ap (λ (l : Lines). first_loop l c.args.settings) c.in-Samples.is)

pub returns-in-Deliveries : goal.returns-in-Deliveries
unfolding first_loop
returns-in-Deliveries c = ap (λ (m : Made). m.state) c.make.ensures ∙ sym (ap (λ (l : Lines). first_loop l c.args.settings) c.in-Deliveries.is)
