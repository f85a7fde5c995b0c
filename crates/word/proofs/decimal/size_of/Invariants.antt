-- The loop's invariant: the answer is the one that goes on from n with what is left; n has at most as many digits as were read.
use Prim.Native.Nat.{ℕ, ◌^◌, ◌<◌, ◌≤◌}
use mathlib.Core.Path.{◌≡◌}
use mathlib.Core.Bool.{cond}
use mathlib.Core.List.{List}
use lib.ListN.{length, drop}
use Rattle.std.specs.Prelude.{Option, Some, None}
use Rattle.word.specs.Decimal.{all_digits, long_digits, size_from}
use Rattle.word.proofs.Digits.{size_in}
use Rattle.word.proofs.decimal.size_of.Given as goal

-- what is answered where n is what the digits before w make
abbrev going : ℕ → List ℕ → Option ℕ
going n w = cond (all_digits w) (Some (size_from n w)) None

abbrev pub invariant-loop-byte : goal.invariant-loop-byte
invariant-loop-byte l =
    (length l.word ≤ long_digits) × (l.n < 10 ^ l.byte-index) × (size_in l.most l.word ≡ going l.n (drop l.byte-index l.word))
