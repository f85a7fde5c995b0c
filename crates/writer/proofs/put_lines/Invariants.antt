-- The loop's invariant: what is put in all is what is put of the lines that are left.
use Prim.Native.Nat.{◌+◌, ◌*◌, ◌≤◌}
use mathlib.Core.Path.{◌≡◌}
use lib.ListN.{length, drop}
use lib.Seq.{sets}
use Rattle.settings.specs.Table.{longest_key, rows}
use Rattle.settings.specs.Settings.{values_of}
use Rattle.word.specs.Decimal.{decimal_room}
use Rattle.writer.specs.Lines.{lines_of, text_of}
use Rattle.writer.proofs.put_lines.Given as goal

abbrev pub invariant-loop-i : goal.invariant-loop-i
invariant-loop-i l =
    (length l.buffer ≡ length l.initial.buffer)
    × (l.at ≤ (longest_key + decimal_room + 1) * l.i)
    × (length (text_of l.settings) ≡ l.at + length (lines_of (drop l.i rows) (drop l.i (values_of l.settings))))
    × (sets l.initial.buffer 0 (text_of l.settings) ≡ sets l.buffer l.at (lines_of (drop l.i rows) (drop l.i (values_of l.settings))))
