use mathlib.Core.Path.{ap₂, ◌∙◌}
use mir.Facts.{to_z-of_z}
use mir.Syntax.{w32}
use borrow.Author.Rules.{rules}
use Rattle.std.proofs.Common.{unwrap_or}
use Rattle.temperature.proofs.Ranged.{last_is}
use Rattle.temperature.proofs.raw_after.Goals as goal

pub returns : goal.returns
returns c =
    to_z-of_z {w = w32} (search rules)
    ∙ c.unwrap_or.ensures
    ∙ ap₂ unwrap_or (c.copied.ensures ∙ c.last.ensures.value) (to_z-of_z c.ranges.raw)
    ∙ last_is c.args.raw c.args.samples.now
