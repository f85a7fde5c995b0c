-- Things done one after the other: some, and then others; and in two worlds.
use mathlib.Core.Path.{◌≡◌, refl, ap, ◌∙◌}
use mathlib.Core.List.{List, [], ◌∷◌, ◌++◌, map}
use Rattle.command.specs.Sequence.{after, each}

pub after_append : {S X : Type 0} (step : S → X → S) (s : S) (xs ys : List X) → after step s (xs ++ ys) ≡ after step (after step s xs) ys
unfolding after
after_append step s [] ys = refl
after_append step s (x ∷ xs) ys = after_append step (step s x) xs ys

-- one more at the end
pub after_snoc : {S X : Type 0} (step : S → X → S) (s : S) (xs : List X) (x : X) → after step s (xs ++ (x ∷ [])) ≡ step (after step s xs) x
unfolding after
after_snoc step s xs x = after_append step s xs (x ∷ [])

-- f carries the states of one world into the other, g the things done: what one step keeps, a list of them keeps
module _ {S X S' X' : Type 0} (f : S → S') (g : X → X') (step : S → X → S) (step' : S' → X' → S')
    (one : (s : S) (x : X) → step' (f s) (g x) ≡ f (step s x)) where
  pub after_through : (s : S) (xs : List X) → after step' (f s) (map g xs) ≡ f (after step s xs)
  unfolding after
  after_through s [] = refl
  after_through s (x ∷ xs) = ap (λ (t : S'). after step' t (map g xs)) (one s x) ∙ after_through (step s x) xs

  -- and h the answers
  pub each_through : {A A' : Type 0} (h : A → A') (answer : S → X → A) (answer' : S' → X' → A') →
      ((s : S) (x : X) → answer' (f s) (g x) ≡ h (answer s x)) → (s : S) (xs : List X) →
      each step' answer' (f s) (map g xs) ≡ map h (each step answer s xs)
  unfolding each
  each_through h answer answer' said s [] = refl
  each_through {A' = A'} h answer answer' said s (x ∷ xs) =
      rw (one s x, said s x) (ap (λ (rest : List A'). h (answer s x) ∷ rest) (each_through h answer answer' said (step s x) xs))
