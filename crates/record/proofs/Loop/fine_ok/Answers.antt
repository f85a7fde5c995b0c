use mathlib.Core.Path.{◌∙◌}
use Rattle.temperature.proofs.InRange.{contains_is}
use Rattle.record.proofs.Fit.{loop_fit}
use Rattle.whole.proofs.Bits.{same_bits}
use lib.Dec.{lit<}
use lib.IntN.{pos}
use mir.Syntax.{w64}
use Rattle.record.proofs.Loop.fine_ok.Goals as goal

pub returns : goal.returns
returns c =
    let f = loop_fit c.args.self c.well_formed.0 in
    let i = c.new.ensures in
    let y = c.new-2.ensures in
    rw (
      c.contains.ensures.value ∙ contains_is _ i.start i.end i.exhausted,
      c.contains-2.ensures.value ∙ contains_is _ y.start y.end y.exhausted,
      same_bits w64 c.args.self.y (pos 0) f.y (record { sfits = lit< tt }),
    )
