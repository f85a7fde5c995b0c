use mathlib.Core.Path.{ap}
use mathlib.Core.List.{List}
use Rattle.std.proofs.Common.{rules, tests}
use Rattle.memory.specs.declared.Entry.{Entry}
use Rattle.memory.specs.Memory.{window, no_entry, entries_of, newest, filled_of}
use Rattle.memory.proofs.Made.{made_all}
use Rattle.memory.proofs.Filled.{places_enough}
use Rattle.memory.proofs.Fit.{memory_long}
use Rattle.memory.proofs.Memory.fill.Goals as goal

pub returns : goal.returns
unfolding window filled_of
returns c =
    let all = newest c.args.self.entries (entries_of c.args.samples.now c.args.outputs.now) in
    ap (λ (es : List Entry). record { number = c.args.number; entries = es })
    (made_all _ _ all no_entry (λ i y q k. search (rules, tests)) _ window c.from_fn.ensures.items (places_enough c.args.self.entries (entries_of c.args.samples.now c.args.outputs.now) window (memory_long c.args.self c.well_formed.0)))
