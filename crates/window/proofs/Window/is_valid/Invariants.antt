-- The loop's invariant: the rules hold where what was found so far does, and those of the places that are left.
use Prim.Native.Nat.{◌-◌}
use mathlib.Core.Path.{◌≡◌}
use mathlib.Core.Bool.{◌&&◌}
use lib.Dec.{leb}
use lib.ListN.{drop}
use Rattle.settings.specs.Table.{window}
use Rattle.window.specs.Window.{places_ok}
use Rattle.window.proofs.Window.is_valid.Given as goal

abbrev pub invariant-loop-i : goal.invariant-loop-i
invariant-loop-i l =
    (leb l.fn.self.seen window && places_ok l.fn.self.seen l.x-items) ≡ (l.ok && places_ok (l.fn.self.seen - l.i) (drop l.i l.x-items))
