-- The loop's invariant: the places so far are the new entry and those before it.
use Prim.Native.Nat.{◌-◌, ◌≤◌}
use mathlib.Core.Path.{◌≡◌}
use mathlib.Core.List.{◌∷◌}
use lib.ListN.{length, take, get_or}
use Rattle.memory.specs.Memory.{window, no_entry}
use Rattle.memory.proofs.Memory.remember.Given as goal

abbrev pub invariant-loop-i : goal.invariant-loop-i
invariant-loop-i l =
    (1 ≤ l.i) × (l.i ≤ window) × (length l.self.entries ≡ window) × (length l.entries ≡ window) × (take l.i l.entries ≡ take l.i (get_or l.initial.entries 0 no_entry ∷ l.self.entries))

abbrev pub decreases-loop-i : goal.decreases-loop-i
decreases-loop-i l = window - l.i
