-- The earliest bad sample of a list.
use Prim.Native.Nat.{ℕ, suc, ◌+◌, ◌<◌, ◌≤◌}
use mathlib.Core.Path.{◌≡◌, refl, sym, ◌∙◌}
use mathlib.Core.Bool.{Bool, true, false, cond}
use mathlib.Core.List.{List, [], ◌∷◌}
use native.Mathlib.Numerals.{add-one}
use native.Mathlib.Omega.{arith}
use borrow.Author.Tests.{eqb-true, eqb-false, eq-eqb, ne_eqb}
use lib.Dec.{eqb}
use lib.IntN.{ℤ, pos}
use lib.ListN.{length, take, drop, get_or}
use lib.Seq.{drop-cons, drop-length}
use Rattle.whole.proofs.Truth.{by_test, chosen}
use Rattle.settings.specs.Table.{in_reach}
use Rattle.temperature.specs.declared.Guard.{Guard}
use Rattle.temperature.specs.Temperature.{Bad, jumps, code_of, past, first_bad, first_code}

pub bad_is : {c d p q : ℕ} → c ≡ d → p ≡ q → ◌≡◌ {A = Bad} (record { code = c; place = p }) (record { code = d; place = q })
bad_is e f = rw (e, f)

-- what holds of 0, 4 and 19 holds of a sample's code
pub one_of : (P : ℕ → Type 0) (g : Guard) (pv : ℤ) → P 0 → P 4 → P 19 → P (code_of g pv)
unfolding code_of
one_of P g pv a b c = chosen P (in_reach pv) (λ _. chosen P (jumps g pv) (λ _. c) (λ _. a)) (λ _. b)

-- a sample that is taken, and one that is not
pub bad_on : (g : Guard) (pv : ℤ) (pvs : List ℤ) → code_of g pv ≡ 0 →
    (first_bad g (pv ∷ pvs) ≡ suc (first_bad (past g pv) pvs)) × (first_code g (pv ∷ pvs) ≡ first_code (past g pv) pvs)
unfolding first_bad first_code
bad_on g pv pvs e = (rw (eq-eqb _ 0 e), rw (eq-eqb _ 0 e))

pub bad_first : (g : Guard) (pv : ℤ) (pvs : List ℤ) → (code_of g pv ≡ 0 → ⊥) →
    (first_bad g (pv ∷ pvs) ≡ 0) × (first_code g (pv ∷ pvs) ≡ code_of g pv)
unfolding first_bad first_code
bad_first g pv pvs e = (rw (ne_eqb _ 0 e), rw (ne_eqb _ 0 e))

pub bad_most : (g : Guard) (pvs : List ℤ) → first_bad g pvs ≤ length pvs
unfolding first_bad
bad_most g [] = omega arith
bad_most g (pv ∷ pvs) = go (eqb (code_of g pv) 0) (bad_most (past g pv) pvs)
  where
    go : (b : Bool) → first_bad (past g pv) pvs ≤ length pvs → cond b (suc (first_bad (past g pv) pvs)) 0 ≤ suc (length pvs)
    go true h = omega arith
    go false h = omega arith

-- a bad one is refused 4 or 19
first_of : (P : ℕ → Type 0) (g : Guard) (pvs : List ℤ) → P 0 → P 4 → P 19 → P (first_code g pvs)
unfolding first_code
first_of P g [] a b c = a
first_of P g (pv ∷ pvs) a b c = chosen P (eqb (code_of g pv) 0) (λ _. first_of P (past g pv) pvs a b c) (λ _. one_of P g pv a b c)

pub either_bad : (g : Guard) (pvs : List ℤ) → (first_code g pvs ≡ 0 → ⊥) → (first_code g pvs ≡ 4 → ⊥) → first_code g pvs ≡ 19
either_bad g pvs =
    first_of (λ (n : ℕ). (n ≡ 0 → ⊥) → (n ≡ 4 → ⊥) → n ≡ 19) g pvs
    (λ h k. absurd (h refl))
    (λ h k. absurd (k refl))
    (λ h k. refl)

-- where none is bad the first is taken, and none of the others is
pub code_none : (g : Guard) (pv : ℤ) (pvs : List ℤ) → first_code g (pv ∷ pvs) ≡ 0 → (code_of g pv ≡ 0) × (first_code (past g pv) pvs ≡ 0)
code_none g pv pvs e =
    by_test (eqb (code_of g pv) 0)
    (λ t. let z = eqb-true (code_of g pv) 0 t in (z, sym (bad_on g pv pvs z).1 ∙ e))
    (λ t. let n = eqb-false (code_of g pv) 0 t in absurd (n (sym (bad_first g pv pvs n).1 ∙ e)))

-- before the earliest bad one none is bad
pub front_good : (g : Guard) (pvs : List ℤ) → first_code g (take (first_bad g pvs) pvs) ≡ 0
unfolding first_bad first_code
front_good g [] = refl
front_good g (pv ∷ pvs) = go (eqb (code_of g pv) 0) refl (front_good (past g pv) pvs)
  where
    go : (b : Bool) → eqb (code_of g pv) 0 ≡ b → first_code (past g pv) (take (first_bad (past g pv) pvs) pvs) ≡ 0 →
        first_code g (take (cond b (suc (first_bad (past g pv) pvs)) 0) (pv ∷ pvs)) ≡ 0
    go true e rec = rw e rec
    go false e rec = refl

-- one turn of the loop over the samples, of which i are taken
module _ (g : Guard) (pvs : List ℤ) (i : ℕ) (more : i < length pvs) where
  abbrev here : ℤ
  here = get_or pvs i (pos 0)

  pub taken_here : code_of g here ≡ 0 →
      (first_bad g (drop i pvs) ≡ suc (first_bad (past g here) (drop (i + 1) pvs))) × (first_code g (drop i pvs) ≡ first_code (past g here) (drop (i + 1) pvs))
  taken_here e = rw (add-one i, drop-cons pvs i (pos 0) more) (bad_on g here (drop (suc i) pvs) e)

  pub bad_here : (code_of g here ≡ 0 → ⊥) → (first_bad g (drop i pvs) ≡ 0) × (first_code g (drop i pvs) ≡ code_of g here)
  bad_here e = rw (drop-cons pvs i (pos 0) more) (bad_first g here (drop (suc i) pvs) e)

pub none_left : (g : Guard) (pvs : List ℤ) (i : ℕ) → i ≡ length pvs → (first_bad g (drop i pvs) ≡ 0) × (first_code g (drop i pvs) ≡ 0)
unfolding first_bad first_code
none_left g pvs i e = (rw (e, drop-length pvs), rw (e, drop-length pvs))
