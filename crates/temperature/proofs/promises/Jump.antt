-- 02, request 8, of raw temperatures alone. By their contracts `check` answers `code_of g pv`, and `first_bad` the earliest bad
-- sample of a list.
use Prim.Native.Nat.{ℕ, zero, suc, ◌<◌}
use mathlib.Core.Path.{◌≡◌, refl, sym, ap, ap₂, ◌∙◌}
use mathlib.Core.Bool.{true, false}
use mathlib.Core.List.{List, [], ◌∷◌}
use native.Mathlib.Omega.{arith}
use borrow.Author.Tests.{eqb-true, eqb-false}
use lib.Dec.{eqb}
use lib.IntN.{ℤ, pos, negsuc}
use lib.ListN.{length, get_or}
use Rattle.whole.proofs.Truth.{and, by_test}
use Rattle.temperature.specs.declared.Guard.{Guard}
use Rattle.std.proofs.Common.{Result, Ok, Err}
use Rattle.std.specs.Bool.{⊤}
use Rattle.refusal.specs.declared.Refusal.{Refusal}
use Rattle.refusal.proofs.promises.Codes.{code_for_once, refused_not_0}
use Rattle.temperature.specs.declared.Bad.{Bad as Earliest}
use Rattle.temperature.specs.Temperature.{Bad, raw_ok, code_of, past, first_bad, first_code, bad_of, bad_told, held_against}
use Rattle.temperature.proofs.Earliest.{bad_on, bad_first, code_none}
use Rattle.temperature.proofs.Ranged.{taken_reach}

-- ---- the state rule

-- "within ±1,000,000, and 0 while not primed": a sample that is taken keeps it, whatever was before
pub taken_keeps : (g : Guard) (pv : ℤ) → code_of g pv ≡ 0 → raw_ok true pv ≡ true
taken_keeps g pv e = and (taken_reach g pv e) refl

-- ---- "the earliest bad sample is reported with its code and place"

-- the code of sample i, held against what it is to be held against
abbrev pub code_at : Guard → List ℤ → ℕ → ℕ
code_at g pvs i = code_of (held_against g pvs i) (get_or pvs i (pos 0))

later : (g : Guard) (pv : ℤ) (pvs : List ℤ) (i : ℕ) → code_at (past g pv) pvs i ≡ code_at g (pv ∷ pvs) (suc i)
later g pv pvs zero = refl
later g pv pvs (suc i) = refl

-- where a code is told, it is that of the sample at the place, and every sample before it is good
pub record IsEarliest (g : Guard) (pvs : List ℤ) : Type 0 where
  pub there : first_bad g pvs < length pvs
  pub code : code_at g pvs (first_bad g pvs) ≡ first_code g pvs
  pub before : (i : ℕ) → i < first_bad g pvs → code_at g pvs i ≡ 0

pub earliest : (g : Guard) (pvs : List ℤ) → (first_code g pvs ≡ 0 → ⊥) → IsEarliest g pvs
unfolding first_code
earliest g [] h = absurd (h refl)
earliest g (pv ∷ pvs) h =
    by_test (eqb (code_of g pv) 0)
    (λ t. taken (eqb-true (code_of g pv) 0 t) (earliest (past g pv) pvs (λ e. h ((bad_on g pv pvs (eqb-true (code_of g pv) 0 t)).1 ∙ e))))
    (λ t. refused (bad_first g pv pvs (eqb-false (code_of g pv) 0 t)))
  where
    before_it : code_of g pv ≡ 0 → IsEarliest (past g pv) pvs → (i : ℕ) → i < suc (first_bad (past g pv) pvs) → code_at g (pv ∷ pvs) i ≡ 0
    before_it z r zero l = z
    before_it z r (suc i) l = sym (later g pv pvs i) ∙ r.before i (omega arith)

    taken : code_of g pv ≡ 0 → IsEarliest (past g pv) pvs → IsEarliest g (pv ∷ pvs)
    taken z r =
        let b = bad_on g pv pvs z in
        record {
          there = omega (arith, b.0, r.there);
          code = ap (code_at g (pv ∷ pvs)) b.0 ∙ sym (later g pv pvs (first_bad (past g pv) pvs)) ∙ r.code ∙ sym b.1;
          before = λ i l. before_it z r i (omega (arith, b.0));
        }

    refused : (first_bad g (pv ∷ pvs) ≡ 0) × (first_code g (pv ∷ pvs) ≡ code_of g pv) → IsEarliest g (pv ∷ pvs)
    refused b = record {
      there = omega (arith, b.0);
      code = ap (code_at g (pv ∷ pvs)) b.0 ∙ sym b.1;
      before = λ i l. absurd (omega (arith, b.0));
    }

-- none is told exactly where every sample is good
pub none_bad : (g : Guard) (pvs : List ℤ) → first_code g pvs ≡ 0 → (i : ℕ) → i < length pvs → code_at g pvs i ≡ 0
none_bad g [] e i l = absurd (omega arith)
none_bad g (pv ∷ pvs) e zero l = (code_none g pv pvs e).0
none_bad g (pv ∷ pvs) e (suc i) l = sym (later g pv pvs i) ∙ none_bad (past g pv) pvs (code_none g pv pvs e).1 i (omega arith)

pub all_good : (g : Guard) (pvs : List ℤ) → ((i : ℕ) → i < length pvs → code_at g pvs i ≡ 0) → first_code g pvs ≡ 0
unfolding first_code
all_good g [] f = refl
all_good g (pv ∷ pvs) f =
    (bad_on g pv pvs (f 0 (omega arith))).1 ∙ all_good (past g pv) pvs (λ i l. later g pv pvs i ∙ f (suc i) (omega arith))

-- what is told of a list leaves nothing of the result out
pub bad_once : (n : ℕ) (a b : Result ⊤ Earliest) → bad_told n a ≡ bad_told n b → a ≡ b
bad_once n (Ok _) (Ok _) e = refl
bad_once n (Ok _) (Err y) e = absurd (refused_not_0 y.refusal (sym (ap (λ (b : Bad). b.code) e)))
bad_once n (Err x) (Ok _) e = absurd (refused_not_0 x.refusal (ap (λ (b : Bad). b.code) e))
bad_once n (Err x) (Err y) e =
    ap₂ bad_at
    (code_for_once x.refusal y.refusal (ap (λ (b : Bad). b.code) e))
    (ap (λ (b : Bad). b.place) e)
  where
    bad_at : Refusal → ℕ → Result ⊤ Earliest
    bad_at r i = Err (record { refusal = r; place = i })

-- ---- numbers

-- automatic, jump 10, last kept 480
abbrev near_480 : Guard
near_480 = record { automatic = true; primed = true; jump = pos 10; raw = pos 480 }

abbrev bad : ℕ → ℕ → Bad
bad code place = record { code = code; place = place }

-- a loop that is not primed with a temperature breaks the rule, and one with a temperature out of range
pub broken :
    (raw_ok false (pos 0) ≡ true)
    × (raw_ok false (pos 1) ≡ false)
    × (raw_ok true (negsuc 999999) ≡ true)
    × (raw_ok true (negsuc 1000000) ≡ false)
broken = (refl, refl, refl, refl)

-- "Further than": exactly jump away is taken, on either side; 4 comes before 19
pub edges :
    (code_of near_480 (pos 490) ≡ 0)
    × (code_of near_480 (pos 491) ≡ 19)
    × (code_of near_480 (pos 470) ≡ 0)
    × (code_of near_480 (pos 469) ≡ 19)
    × (code_of near_480 (pos 1000000) ≡ 19)
    × (code_of near_480 (pos 1000001) ≡ 4)
unfolding code_of
edges = (refl, refl, refl, refl, refl, refl)

-- "Manual mode and the first sample are exempt": the second is held against the first
pub exempt :
    (bad_of (record { automatic = false; primed = true; jump = pos 10; raw = pos 480 }) (pos 491 ∷ pos 1000000 ∷ []) ≡ bad 0 2)
    × (bad_of (record { automatic = true; primed = false; jump = pos 1999999; raw = pos 0 }) (pos 1000000 ∷ negsuc 999999 ∷ []) ≡ bad 19 1)
unfolding code_of first_bad first_code
exempt = (refl, refl)

-- "In a replay the test uses the sample before, and the earliest bad sample is reported with its code and place"
pub lists :
    (bad_of near_480 (pos 490 ∷ pos 500 ∷ pos 490 ∷ []) ≡ bad 0 3)
    × (bad_of near_480 (pos 490 ∷ pos 479 ∷ []) ≡ bad 19 1)
    × (bad_of near_480 (pos 490 ∷ pos 501 ∷ pos 1000001 ∷ []) ≡ bad 19 1)
    × (bad_of near_480 (pos 490 ∷ pos 1000001 ∷ pos 5 ∷ []) ≡ bad 4 1)
unfolding code_of first_bad first_code
lists = (refl, refl, refl, refl)
