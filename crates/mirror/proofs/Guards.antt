-- Mirrored raw temperatures lie as far from each other, and are refused alike.
use Prim.Native.Nat.{ℕ}
use mathlib.Core.Path.{◌≡◌, refl, ap, ◌∙◌}
use mathlib.Core.List.{List, [], ◌∷◌, map}
use native.Mathlib.Omega.{arith}
use lib.IntN.{ℤ, pos, neg_ℤ, ◌-ℤ◌}
use lib.Signed.{lt_z}
use Rattle.whole.specs.Numbers.{size}
use Rattle.whole.proofs.Parts.{zs, plus_neg, minus_neg}
use Rattle.whole.proofs.Lin.{Lin, at, lins}
use Rattle.settings.specs.Table.{reach}
use Rattle.temperature.specs.declared.Guard.{Guard}
use Rattle.temperature.specs.Temperature.{further, code_of, past, first_bad, first_code}
use Rattle.mirror.specs.Mirror.{Mirror, of_action, of_temperatures, flip_temperature}
use Rattle.mirror.proofs.Settings.{range_temperature}

abbrev pub flip_guard : Mirror → Guard → Guard
flip_guard k g = record { automatic = g.automatic; primed = g.primed; jump = g.jump; raw = flip_temperature k g.raw }

neg_apart : (a b : ℤ) → size (neg_ℤ a -ℤ neg_ℤ b) ≡ size (a -ℤ b)
neg_apart a b =
    let A = at a in
    let B = at b in
    let L : Lin (neg_ℤ (a -ℤ b)) = search lins in
    let R : Lin (neg_ℤ a -ℤ neg_ℤ b) = search lins in
    let e : neg_ℤ a -ℤ neg_ℤ b ≡ neg_ℤ (a -ℤ b) = omega (arith, zs) in
    ap size e ∙ omega (arith, plus_neg (a -ℤ b), minus_neg (a -ℤ b))

further_mirror : (k : Mirror) (jump raw pv : ℤ) → further jump (flip_temperature k raw) (flip_temperature k pv) ≡ further jump raw pv
further_mirror of_action jump raw pv = refl
further_mirror of_temperatures jump raw pv = ap (λ (n : ℕ). lt_z jump (pos n)) (neg_apart pv raw)

module _ (k : Mirror) where
  pub code_mirror : (g : Guard) (pv : ℤ) → code_of (flip_guard k g) (flip_temperature k pv) ≡ code_of g pv
  unfolding code_of
  code_mirror g pv = rw (range_temperature k reach pv, further_mirror k g.jump g.raw pv)

  pub bad_mirror : (g : Guard) (pvs : List ℤ) → first_bad (flip_guard k g) (map (flip_temperature k) pvs) ≡ first_bad g pvs
  unfolding first_bad
  bad_mirror g [] = refl
  bad_mirror g (pv ∷ pvs) = rw (code_mirror g pv, bad_mirror (past g pv) pvs)

  pub first_mirror : (g : Guard) (pvs : List ℤ) → first_code (flip_guard k g) (map (flip_temperature k) pvs) ≡ first_code g pvs
  unfolding first_code
  first_mirror g [] = refl
  first_mirror g (pv ∷ pvs) = rw (code_mirror g pv, first_mirror (past g pv) pvs)
