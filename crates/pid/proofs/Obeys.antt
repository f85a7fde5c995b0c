-- What the plain law answers, case by case: the crates above look no further into it.
use mathlib.Core.Path.{◌≡◌, refl, ◌∙◌}
use mathlib.Core.Bool.{true, false}
use borrow.Author.Tests.{eq-eqb, ne_eqb}
use mathlib.Core.List.{List, [], ◌∷◌}
use lib.Dec.{eqb}
use Rattle.whole.specs.Numbers.{plus}
use Rattle.whole.proofs.Truth.{chosen}
use Rattle.command.specs.Sequence.{after}
use Rattle.command.specs.declared.Command.{Command}
use Rattle.command.specs.declared.Command.TheVariants.{Sample, Hold, Put, Automatic, Target, Set}
use Rattle.record.specs.declared.Loop.{Loop}
use Rattle.record.specs.Record.{valid}
use Rattle.record.specs.Refusals.{refusal_of}
use Rattle.pid.specs.Law.{sample_of, step_of, law_of}
use Rattle.pid.specs.Run.{obeyed}

module _ (l : Loop) (c : Command) where
  pub obeys : valid l ≡ true → refusal_of l c ≡ 0 → law_of l c ≡ record { code = 0; state = step_of l c }
  unfolding law_of
  obeys v e = rw (v, eq-eqb _ 0 e)

  pub refuses : valid l ≡ true → (refusal_of l c ≡ 0 → ⊥) → law_of l c ≡ record { code = refusal_of l c; state = l }
  unfolding law_of
  refuses v e = rw (v, ne_eqb _ 0 e)

  pub breaks : valid l ≡ false → law_of l c ≡ record { code = 10; state = l }
  unfolding law_of
  breaks v = rw v

-- no command changes the settings
pub settings_stay : (l : Loop) (c : Command) → (step_of l c).settings ≡ l.settings
unfolding step_of sample_of
settings_stay l (Sample pv) = refl
settings_stay l Hold = refl
settings_stay l (Put x) = refl
settings_stay l Automatic = chosen (λ (x : Loop). x.settings ≡ l.settings) l.automatic (λ _. refl) (λ _. refl)
settings_stay l (Target t r) = refl
settings_stay l (Set k) = chosen (λ (x : Loop). x.settings ≡ l.settings) (eqb l.set (plus k)) (λ _. refl) (λ _. refl)

pub settings_after : (l : Loop) (cs : List Command) → (obeyed l cs).settings ≡ l.settings
unfolding after
settings_after l [] = refl
settings_after l (c ∷ cs) = settings_after (step_of l c) cs ∙ settings_stay l c
