-- The loop's invariant: what is asked for is what stands after the lines that are left.
use Prim.Native.Nat.{◌-◌, ◌≤◌}
use mathlib.Core.Path.{◌≡◌}
use lib.ListN.{length}
use Rattle.text.specs.Reader.{after_lines}
use Rattle.text.proofs.reader.after_lines.Given as goal

abbrev pub invariant-loop-line : goal.invariant-loop-line
invariant-loop-line l = (length l.rest ≤ length l.text) × (after_lines l.n l.text ≡ after_lines (l.n - l._line) l.rest)
