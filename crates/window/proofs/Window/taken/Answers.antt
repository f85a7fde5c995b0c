use Prim.Native.Nat.{ℕ}
use mathlib.Core.Path.{ap₂, ◌∙◌}
use mathlib.Core.List.{List, ◌∷◌, append-nil}
use native.Mathlib.Omega.{arith}
use lib.IntN.{ℤ}
use mir.Facts.{to_z-of_z}
use Rattle.window.specs.Window.{taken}
use Rattle.window.proofs.Window.taken.Goals as goal

pub returns : goal.returns
unfolding taken
returns c =
    ap₂ (λ (ps : List ℤ) (k : ℕ). record { places = ps; seen = k })
    (ap₂ (λ (x : ℤ) (xs : List ℤ). x ∷ xs) (to_z-of_z c.ranges.pv) (append-nil _ ∙ c.copy_from_slice.ensures.after))
    (omega (arith, c.min-seen.ensures))
