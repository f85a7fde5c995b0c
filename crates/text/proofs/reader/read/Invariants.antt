-- The loop's invariant: the whole text is read as what is left of it, with the rows and after the values that are left; and the
-- values of lines that it leaves out are those that stand for them.
use Prim.Native.Nat.{◌+◌, ◌≤◌}
use mathlib.Core.Path.{◌≡◌}
use lib.ListN.{length, take, drop}
use Rattle.settings.specs.Table.{lines, rows_of, picked}
use Rattle.settings.specs.Settings.{completed}
use Rattle.text.specs.Reader.{read_from, read_text}
use Rattle.text.proofs.reader.read.Given as goal

abbrev pub invariant-loop-i : goal.invariant-loop-i
invariant-loop-i l =
    (length l.values ≡ lines)
    × (length l.rest ≤ length l.text)
    × (completed l.h (picked l.h l.values) ≡ l.values)
    × (read_text l.text ≡ read_from l.h l.sets (drop l.i (picked l.h (rows_of l.sets))) (l.i + 1) (take l.i (picked l.h l.values)) l.rest)
