-- The running sum: the means of samples over every temperature there was, newest first.
use Rattle.std.specs.Prelude.{ℕ, ◌+◌, min, List, [], ◌∷◌, ℤ, take}
use Rattle.whole.specs.Rounding.{nearest}
use Rattle.window.specs.Window.{sum_of}

-- every temperature after the samples
abbrev pub onto : List ℤ → List ℤ → List ℤ
onto all [] = all
onto all (x ∷ xs) = onto (x ∷ all) xs

-- how many are counted after them: each is one more, up to most
abbrev pub counted_on : ℕ → ℕ → List ℤ → ℕ
counted_on most n [] = n
counted_on most n (x ∷ xs) = counted_on most (min most (n + 1)) xs

-- the mean after each
abbrev pub means_at : ℕ → ℕ → List ℤ → List ℤ → List ℤ
means_at most n all [] = []
means_at most n all (x ∷ xs) =
    nearest (sum_of (take (min most (n + 1)) (x ∷ all))) (min most (n + 1)) ∷ means_at most (min most (n + 1)) (x ∷ all) xs
