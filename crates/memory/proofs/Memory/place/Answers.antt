use mathlib.Core.Path.{◌∙◌}
use Rattle.memory.proofs.Filled.{place_new, place_old}
use Rattle.memory.proofs.Memory.place.Goals as goal

pub returns-then-i-n : goal.returns-then-i-n
returns-then-i-n c =
    c.sampled.ensures ∙ place_new c.args.self.entries c.args.samples.now c.args.outputs.now c.min-n.result c.args.i c.min-n.ensures c.if-i-n.true

pub returns : goal.returns
returns c =
    place_old c.args.self.entries c.args.samples.now c.args.outputs.now c.min-n.result c.args.i c.min-n.ensures c.if-i-n.false
