-- Samples within ±1,000,000, and the last of some samples.
use Prim.Native.Nat.{ℕ, suc, ◌+◌, ◌-◌, ◌<◌}
use mathlib.Core.Path.{◌≡◌, refl, sym, ap, ◌∙◌}
use mathlib.Core.Bool.{true, false}
use mathlib.Core.List.{List, [], ◌∷◌}
use native.Mathlib.Omega.{arith}
use lib.IntN.{ℤ, pos}
use lib.ListN.{length, drop, get_or}
use Rattle.std.proofs.Common.{unwrap_or, slice_get}
use Rattle.whole.proofs.Truth.{both, and, zero_if, zero_else}
use Rattle.whole.proofs.Lists.{next}
use Rattle.settings.specs.Table.{in_reach}
use Rattle.temperature.specs.declared.Guard.{Guard}
use Rattle.temperature.specs.Temperature.{further, jumps, code_of, past, first_code, ranged, raw_after}
use Rattle.temperature.proofs.Earliest.{code_none}

-- a list of them: its first, and what is left at a place
pub ranged_first : (pv : ℤ) (pvs : List ℤ) → ranged (pv ∷ pvs) ≡ true → (in_reach pv ≡ true) × (ranged pvs ≡ true)
ranged_first pv pvs e = both (in_reach pv) (ranged pvs) e

pub ranged_on : (pvs : List ℤ) (i : ℕ) → i < length pvs → ranged (drop i pvs) ≡ true →
    (in_reach (get_or pvs i (pos 0)) ≡ true) × (ranged (drop (i + 1) pvs) ≡ true)
ranged_on pvs i more e = ranged_first (get_or pvs i (pos 0)) (drop (i + 1) pvs) (rw (next pvs i (pos 0) more) at e)

-- a sample that is taken is one of them
pub taken_reach : (g : Guard) (pv : ℤ) → code_of g pv ≡ 0 → in_reach pv ≡ true
unfolding code_of
taken_reach g pv e = (zero_if (in_reach pv) _ 3 e).0

-- and, where it is tested, no further than jump from the one before
pub taken_near : (g : Guard) (pv : ℤ) → g.automatic ≡ true → g.primed ≡ true → code_of g pv ≡ 0 → further g.jump g.raw pv ≡ false
unfolding code_of
taken_near g pv a p e =
    rw (a, p) at (zero_else (jumps g pv) 18 0 (zero_if (in_reach pv) _ 3 e).1).0

pub all_ranged : (g : Guard) (pvs : List ℤ) → first_code g pvs ≡ 0 → ranged pvs ≡ true
all_ranged g [] e = refl
all_ranged g (pv ∷ pvs) e =
    let c = code_none g pv pvs e in
    and (taken_reach g pv c.0) (all_ranged (past g pv) pvs c.1)

-- ---- the last of some samples

pub raw_none : (raw : ℤ) (pvs : List ℤ) → length pvs ≡ 0 → raw_after raw pvs ≡ raw
unfolding raw_after
raw_none raw [] e = refl
raw_none raw (pv ∷ pvs) e = absurd (omega arith)

pub raw_last : (raw : ℤ) (pvs : List ℤ) → 0 < length pvs → raw_after raw pvs ≡ get_or pvs (length pvs - 1) (pos 0)
unfolding raw_after
raw_last raw [] h = absurd (omega arith)
raw_last raw (pv ∷ []) h = refl
raw_last raw (pv ∷ x ∷ pvs) h =
    let p : suc (suc (length pvs)) - 1 ≡ suc (suc (length pvs) - 1) = omega arith in
    raw_last pv (x ∷ pvs) (omega arith) ∙ ap (λ (i : ℕ). get_or (pv ∷ x ∷ pvs) i (pos 0)) (sym p)

pub last_is : (raw : ℤ) (pvs : List ℤ) → unwrap_or (slice_get pvs (length pvs - 1)) raw ≡ raw_after raw pvs
unfolding raw_after
last_is raw [] = refl
last_is raw (pv ∷ []) = refl
last_is raw (pv ∷ x ∷ pvs) =
    let p : suc (suc (length pvs)) - 1 ≡ suc (suc (length pvs) - 1) = omega arith in
    ap (λ (i : ℕ). unwrap_or (slice_get (pv ∷ x ∷ pvs) i) raw) p ∙ last_is raw (x ∷ pvs)
