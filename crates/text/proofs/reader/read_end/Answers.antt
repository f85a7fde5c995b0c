use mathlib.Core.Path.{sym}
use borrow.Author.Tests.{lt-ltb, le-ltb}
use Rattle.text.proofs.Texts.{bytes_left, not_ordered, end_taken}
use Rattle.whole.proofs.Truth.{so}
use Rattle.text.proofs.reader.read_end.Goals as goal

pub returns-then-left-gt0 : goal.returns-then-left-gt0
returns-then-left-gt0 c = sym (bytes_left _ _ (lt-ltb _ _ c.if-left-gt0.true))

pub returns-then-not-ordered : goal.returns-then-not-ordered
returns-then-not-ordered c = sym (not_ordered _ _ (le-ltb _ _ c.if-left-gt0.false) (so c.is_ordered-ordered.ensures c.if-not-ordered.true))

pub returns : goal.returns
returns c = sym (end_taken _ _ (le-ltb _ _ c.if-left-gt0.false) (so c.is_ordered-ordered.ensures c.if-not-ordered.false))
