-- Things done one after the other.
use Rattle.std.specs.Prelude.{List, [], ◌∷◌}

-- where a list of things done one after the other leads from s, if one of them, x, makes `step s x` of s
unfoldable pub after : {S X : Type 0} → (S → X → S) → S → List X → S
after step s [] = s
after step s (x ∷ xs) = after step (step s x) xs

-- and what each of them is answered, if one of them, x, is answered `answer s x` in s
unfoldable pub each : {S X A : Type 0} → (S → X → S) → (S → X → A) → S → List X → List A
each step answer s [] = []
each step answer s (x ∷ xs) = answer s x ∷ each step answer (step s x) xs
