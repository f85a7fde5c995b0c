-- DEMAND 2, of one decimal, for every word and every number. By its contract the reader of a word answers `decimal_of word`,
-- and what is put for a number is `decimal` of it.
use Prim.Native.Nat.{ℕ, ◌^◌, ◌<◌}
use mathlib.Core.Path.{◌≡◌, sym, ap, ◌∙◌}
use mathlib.Core.Bool.{true}
use mathlib.Core.List.{List}
use mathlib.Core.Logic.{◌↔◌}
use lib.IntN.{ℤ, nat_abs}
use Rattle.std.specs.Prelude.{Some}
use Rattle.word.specs.Decimal.{is_decimal, number_of, decimal_of, decimal}
use Rattle.word.proofs.Decimals.{decimal_read, read_decimal}

-- A word is a decimal exactly when it is what is written for a number of at most 7 digits.
pub decimal_exactly : (w : List ℕ) → (is_decimal w ≡ true) ↔ ((z : ℤ) × (nat_abs z < 10 ^ 7) × (w ≡ decimal z))
decimal_exactly w = (
  λ e. let t = read_decimal w e in (number_of w, t.small, sym t.same),
  λ p. ap is_decimal p.2 ∙ (decimal_read p.0 p.1).form,
)

-- And it is read as that number.
pub decimal_back : (z : ℤ) → nat_abs z < 10 ^ 7 → decimal_of (decimal z) ≡ Some z
decimal_back z h = let r = decimal_read z h in rw (r.form, r.number)
