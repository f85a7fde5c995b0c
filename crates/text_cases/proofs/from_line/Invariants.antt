-- The loop's invariant: what is left is no longer than the text.
use Rattle.std.proofs.Common.{length, ◌≤◌}
use Rattle.text_cases.proofs.from_line.Given as goal

abbrev pub invariant-loop-line : goal.invariant-loop-line
invariant-loop-line l = length l.rest ≤ length l.text
