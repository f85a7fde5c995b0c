use mathlib.Core.Path.{◌∙◌}
use Rattle.word.proofs.Digits.{within_bits}
use Rattle.word.proofs.decimal.read_decimal.Goals as goal

pub returns : goal.returns
returns c = c.signed_of.ensures ∙ within_bits c.args.word.now
