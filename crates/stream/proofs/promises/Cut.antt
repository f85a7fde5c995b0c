-- What is written never depends on where the file is cut into pieces.
use Prim.Native.Nat.{ℕ}
use mathlib.Core.Path.{◌≡◌, refl, ap, sym, ◌∙◌}
use mathlib.Core.List.{List, [], ◌∷◌, ◌++◌, append_assoc}
use Rattle.stream.specs.declared.run.Run.{Run}
use Rattle.stream.specs.Feed.{byte_of, after, written}

-- the run that is left
pub cut_after : (r : Run) (a b : List ℕ) → after r (a ++ b) ≡ after (after r a) b
cut_after r [] b = refl
cut_after r (x ∷ a) b = cut_after (byte_of r x).run a b

-- and every byte that is written
pub cut_written : (r : Run) (a b : List ℕ) → written r (a ++ b) ≡ written r a ++ written (after r a) b
cut_written r [] b = refl
cut_written r (x ∷ a) b =
    ap (λ (t : List ℕ). (byte_of r x).text ++ t) (cut_written (byte_of r x).run a b) ∙ sym (append_assoc (byte_of r x).text _ _)

-- ---- any number of pieces

abbrev pub whole : List (List ℕ) → List ℕ
whole [] = []
whole (p ∷ ps) = p ++ whole ps

-- the run that is left once the pieces are fed one by one, and what is written on the way
abbrev pub after_all : Run → List (List ℕ) → Run
after_all r [] = r
after_all r (p ∷ ps) = after_all (after r p) ps

abbrev pub written_all : Run → List (List ℕ) → List ℕ
written_all r [] = []
written_all r (p ∷ ps) = written r p ++ written_all (after r p) ps

pub pieces_after : (r : Run) (ps : List (List ℕ)) → after_all r ps ≡ after r (whole ps)
pieces_after r [] = refl
pieces_after r (p ∷ ps) = pieces_after (after r p) ps ∙ sym (cut_after r p (whole ps))

pub pieces_written : (r : Run) (ps : List (List ℕ)) → written_all r ps ≡ written r (whole ps)
pieces_written r [] = refl
pieces_written r (p ∷ ps) = ap (λ (t : List ℕ). written r p ++ t) (pieces_written (after r p) ps) ∙ sym (cut_written r p (whole ps))
