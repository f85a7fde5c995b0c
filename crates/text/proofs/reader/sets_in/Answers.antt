use mathlib.Core.Path.{sym, ap}
use native.Mathlib.Omega.{arith}
use lib.ListN.{length}
use Rattle.text.proofs.Texts.{goes_on, ends_short}
use Rattle.text.proofs.reader.sets_in.Goals as goal

pub returns-then-left-gt0 : goal.returns-then-left-gt0
returns-then-left-gt0 c = sym (goes_on _ _ (omega (arith, c.if-left-gt0.true, ap length c.after_lines-left.ensures)))

pub returns : goal.returns
returns c = sym (ends_short _ _ (omega (arith, c.if-left-gt0.false, ap length c.after_lines-left.ensures)))
