use Prim.Native.Nat.{ℕ, ◌<◌, ◌^◌}
use mathlib.Core.Path.{◌≡◌, sym, ap, ◌∙◌}
use mathlib.Core.Bool.{cond}
use mathlib.Core.List.{List}
use native.Mathlib.Omega.{arith}
use borrow.Author.Tests.{lt-ltb, le-ltb}
use lib.Dec.{ltb}
use Rattle.std.specs.Prelude.{Option, Some, None, Result, Ok, Err}
use Rattle.std.specs.Result.{OkIff, result_ok}
use Rattle.whole.proofs.Truth.{cond_yes, cond_no}
use Rattle.word.specs.Decimal.{long_digits}
use Rattle.word.specs.Number.{highest, number_in}
use Rattle.word.proofs.Digits.{size_in, made, made_of}
use Rattle.word.proofs.number.read_unsigned.Goals as goal

-- the answer, said of what the digits are
told : (w : List ℕ) {s : Option ℕ} → s ≡ size_in long_digits w → number_in w ≡ made (λ (n : ℕ). cond (ltb highest n) None (Some n)) None s
unfolding number_in
told w e = made_of _ None long_digits w e

-- what the conversion to 32 bits answers
within : {E : Type 0} (n : ℕ) (r : Result ℕ E) → OkIff r (n < 2 ^ 32) n → result_ok r ≡ cond (ltb highest n) None (Some n)
within n (Ok m) h = ap Some h.1 ∙ sym (cond_no _ _ (le-ltb highest n (omega (arith, h.0))))
within n (Err e) h = sym (cond_yes _ _ (lt-ltb highest n (omega (arith, h))))

pub returns-in_err-size_of : goal.returns-in_err-size_of
returns-in_err-size_of c = c.from_residual.ensures ∙ sym (told _ c.in_err-size_of.ensures)

pub returns : goal.returns
returns c = c.ok.ensures.value ∙ within _ _ c.try_from.ensures ∙ sym (told _ c.in_ok-size_of.ensures)
