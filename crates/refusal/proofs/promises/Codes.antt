-- The paper's numbers tell the refusals apart, and a refusal from what was done.
use Rattle.std.proofs.Common.{◌≡◌, ℕ, List, [], ◌∷◌, get_or, Result, Ok, Err}
use mathlib.Core.Path.{refl, sym, ap, ◌∙◌}
use native.Mathlib.Omega.{arith}
use Rattle.std.specs.Bool.{⊤}
use Rattle.refusal.specs.declared.Refusal.{Refusal}
use Rattle.refusal.specs.declared.Refusal.TheVariants.{Old, Reused, Ahead, Temperature, PutOutside, PutInAutomatic, Target, Rate, NoSet, BrokenRecord, SettingOutside, ShortOutputs, ManySamples, WrongForm, ValueOutside, Limits, BytesLeft, ShortBuffer, Jump}
use Rattle.refusal.specs.Refusal.{code_for, code_in}

-- the outcomes in the order of their codes
outcomes : List (Result ⊤ Refusal)
outcomes =
    Ok tt
    ∷ Err Old ∷ Err Reused ∷ Err Ahead ∷ Err Temperature ∷ Err PutOutside ∷ Err PutInAutomatic ∷ Err Target ∷ Err Rate ∷ Err NoSet
    ∷ Err BrokenRecord ∷ Err SettingOutside ∷ Err ShortOutputs ∷ Err ManySamples ∷ Err WrongForm ∷ Err ValueOutside ∷ Err Limits
    ∷ Err BytesLeft ∷ Err ShortBuffer ∷ Err Jump ∷ []

again : (a : Result ⊤ Refusal) → get_or outcomes (code_in a) (Ok tt) ≡ a
unfolding outcomes
again (Ok _) = refl
again (Err Old) = refl
again (Err Reused) = refl
again (Err Ahead) = refl
again (Err Temperature) = refl
again (Err PutOutside) = refl
again (Err PutInAutomatic) = refl
again (Err Target) = refl
again (Err Rate) = refl
again (Err NoSet) = refl
again (Err BrokenRecord) = refl
again (Err SettingOutside) = refl
again (Err ShortOutputs) = refl
again (Err ManySamples) = refl
again (Err WrongForm) = refl
again (Err ValueOutside) = refl
again (Err Limits) = refl
again (Err BytesLeft) = refl
again (Err ShortBuffer) = refl
again (Err Jump) = refl

-- No two outcomes have the same code.
pub code_in_once : (a b : Result ⊤ Refusal) → code_in a ≡ code_in b → a ≡ b
code_in_once a b e = sym (again a) ∙ ap (λ (n : ℕ). get_or outcomes n (Ok tt)) e ∙ again b

-- Nor have two refusals.
pub code_for_once : (a b : Refusal) → code_for a ≡ code_for b → a ≡ b
code_for_once a b e = ap refusal_in (code_in_once (Err a) (Err b) e) where
  refusal_in : Result ⊤ Refusal → Refusal
  refusal_in (Ok _) = Old
  refusal_in (Err r) = r

-- A refusal's code is never 0.
pub refused_not_0 : (r : Refusal) → code_for r ≡ 0 → ⊥
refused_not_0 r e = apart (code_in_once (Err r) (Ok tt) e) where
  apart : ◌≡◌ {A = Result ⊤ Refusal} (Err r) (Ok tt) → ⊥
  apart p = grind (arith, p)
