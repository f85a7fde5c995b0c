-- What holds of every line's verdict.
use Prim.Native.Nat.{ℕ}
use mathlib.Core.Path.{◌≡◌, refl}
use mathlib.Core.Bool.{true}
use mathlib.Core.List.{List, []}
use lib.Dec.{eqb}
use Rattle.whole.proofs.Truth.{chosen}
use Rattle.command.specs.declared.Command.TheVariants.{Sample}
use Rattle.delivery.specs.declared.numbered.Numbered.{Numbered}
use Rattle.memory.specs.Memory.{last_number}
use Rattle.delivery.specs.Numbered.{valid_of}
use Rattle.delivery.proofs.promises.Delivery.{again_valid}
use Rattle.std.specs.Prelude.{ℤ, Option, Some, None}
use Rattle.word.specs.Decimal.{decimal_of}
use Rattle.delivery_line.specs.declared.Delivery.{Delivery}
use Rattle.delivery_line.specs.Line.{delivery_of}
use Rattle.answer.specs.Verdict.{Verdict}
use Rattle.answer.specs.Oven.{sampled_of, by_answer, by_sample, by_decimal, sample_line}
use Rattle.answer.specs.Journal.{by_delivery, journal_line}
use Rattle.answer.specs.declared.judge.Lines.{Lines}
use Rattle.answer.specs.declared.judge.Lines.TheVariants.{Samples, Deliveries}
use Rattle.answer.specs.Judge.{judged_by}

-- ---- a refused line has no text

abbrev Quiet : Verdict → Type 0
Quiet v = (v.code ≡ 0 → ⊥) → v.text ≡ []

sample_quiet : (l : Numbered) (d : Option ℤ) → Quiet (by_decimal l d)
unfolding by_sample by_answer
sample_quiet l None = λ _. refl
sample_quiet l (Some pv) =
    chosen Quiet (eqb l.memory.number last_number) (λ _ _. refl)
    (λ _. chosen Quiet (eqb (sampled_of l pv).code 0) (λ _ h. absurd (h refl)) (λ _ _. refl))

delivery_quiet : (l : Numbered) (w : List ℕ) (d : Option Delivery) → Quiet (by_delivery l w d)
delivery_quiet l w None = λ _. refl
delivery_quiet l w (Some d) = λ h. absurd (h refl)

pub refused_quiet : (lines : Lines) (l : Numbered) (w : List ℕ) → ((judged_by lines l w).code ≡ 0 → ⊥) → (judged_by lines l w).text ≡ []
unfolding sample_line journal_line
refused_quiet Samples l w = sample_quiet l (decimal_of w)
refused_quiet Deliveries l w = delivery_quiet l w (delivery_of w)

-- ---- "Every loop the software makes keeps them": a line leaves a loop that keeps the state rules

abbrev Good : Verdict → Type 0
Good v = valid_of v.state ≡ true

module _ (l : Numbered) (v : valid_of l ≡ true) where
  sample_good : (d : Option ℤ) → Good (by_decimal l d)
  unfolding by_sample by_answer
  sample_good None = v
  sample_good (Some pv) =
      let g = again_valid l _ (Sample pv) v in
      chosen Good (eqb l.memory.number last_number) (λ _. v) (λ _. chosen Good (eqb (sampled_of l pv).code 0) (λ _. g) (λ _. g))

  delivery_good : (w : List ℕ) (d : Option Delivery) → Good (by_delivery l w d)
  delivery_good w None = v
  delivery_good w (Some d) = again_valid l d.number d.command v

pub judged_valid : (lines : Lines) (l : Numbered) → valid_of l ≡ true → (w : List ℕ) → valid_of (judged_by lines l w).state ≡ true
unfolding sample_line journal_line
judged_valid Samples l v w = sample_good l v (decimal_of w)
judged_valid Deliveries l v w = delivery_good l v w (delivery_of w)
