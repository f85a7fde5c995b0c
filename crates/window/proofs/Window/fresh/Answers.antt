use mathlib.Core.Path.{refl}
use Rattle.window.specs.Window.{fresh_window}
use Rattle.window.proofs.Window.fresh.Goals as goal

pub returns : goal.returns
unfolding fresh_window
returns c = refl
