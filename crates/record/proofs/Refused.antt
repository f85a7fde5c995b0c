-- What the refusals say, where they are cited: the crates above look no further into them.
use Prim.Native.Nat.{ℕ, ◌-◌}
use mathlib.Core.Path.{◌≡◌, refl}
use mathlib.Core.Bool.{true}
use native.Mathlib.Omega.{arith}
use lib.IntN.{ℤ, pos}
use Rattle.whole.specs.Numbers.{inside}
use Rattle.whole.proofs.Truth.{chosen}
use Rattle.settings.specs.Table.{sets, in_reach}
use Rattle.temperature.specs.Temperature.{code_of}
use Rattle.temperature.proofs.Earliest.{one_of}
use Rattle.temperature.proofs.Ranged.{taken_reach}
use Rattle.command.specs.declared.Command.{Command}
use Rattle.command.specs.declared.Command.TheVariants.{Sample, Hold, Put, Automatic, Target, Set}
use Rattle.record.specs.declared.Loop.{Loop}
use Rattle.record.specs.Record.{in_rates, guard_of}
use Rattle.record.specs.Refusals.{refusal_of}

-- an accepted sample lies within ±1,000,000
pub sample_reach : (l : Loop) (pv : ℤ) → refusal_of l (Sample pv) ≡ 0 → in_reach pv ≡ true
unfolding refusal_of
sample_reach l pv e = taken_reach (guard_of l) pv e

-- a sample is refused as its raw temperature is
pub sample_code : (l : Loop) (pv : ℤ) → refusal_of l (Sample pv) ≡ code_of (guard_of l) pv
unfolding refusal_of
sample_code l pv = refl

-- 10 is no refusal of a command's content
pub never_ten : (l : Loop) (c : Command) → refusal_of l c ≡ 10 → ⊥
unfolding refusal_of
never_ten l (Sample pv) = one_of (λ (n : ℕ). n ≡ 10 → ⊥) (guard_of l) pv (λ e. omega (arith, e)) (λ e. omega (arith, e)) (λ e. omega (arith, e))
never_ten l Hold = λ e. omega (arith, e)
never_ten l (Put x) =
    chosen (λ (n : ℕ). n ≡ 10 → ⊥) l.automatic (λ _ e. omega (arith, e))
    (λ _. chosen (λ (n : ℕ). n ≡ 10 → ⊥) (inside l.settings.lo l.settings.hi x) (λ _ e. omega (arith, e)) (λ _ e. omega (arith, e)))
never_ten l Automatic = λ e. omega (arith, e)
never_ten l (Target t r) =
    chosen (λ (n : ℕ). n ≡ 10 → ⊥) (in_reach t)
    (λ _. chosen (λ (n : ℕ). n ≡ 10 → ⊥) (in_rates r) (λ _ e. omega (arith, e)) (λ _ e. omega (arith, e)))
    (λ _ e. omega (arith, e))
never_ten l (Set k) = chosen (λ (n : ℕ). n ≡ 10 → ⊥) (inside (pos 0) (pos (sets - 1)) k) (λ _ e. omega (arith, e)) (λ _ e. omega (arith, e))
