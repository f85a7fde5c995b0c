-- Tests and choices: what follows from a test that came out true or false.
use Prim.Native.Nat.{ℕ, suc}
use mathlib.Core.Path.{◌≡◌, refl, sym, subst, ◌∙◌}
use mathlib.Core.Bool.{Bool, true, false, cond, ◌&&◌}
use native.Mathlib.Omega.{arith}
use lib.Dec.{T}

pub never : {X : Type 0} → false ≡ true → X
never e = absurd (subst T (sym e) tt)

pub yes_of : (t : Bool) → T t → t ≡ true
yes_of true h = refl
yes_of false h = absurd h

pub of_yes : {t : Bool} → t ≡ true → T t
of_yes e = subst T (sym e) tt

pub both : (t u : Bool) → (t && u) ≡ true → (t ≡ true) × (u ≡ true)
both true true e = (refl, refl)
both true false e = never e
both false u e = never e

pub and : {t u : Bool} → t ≡ true → u ≡ true → (t && u) ≡ true
and {t} {u} p q = rw (p, q)

pub and_comm : (a b : Bool) → (a && b) ≡ (b && a)
and_comm true true = refl
and_comm true false = refl
and_comm false true = refl
and_comm false false = refl

pub and_swap : (a b c : Bool) → (a && (b && c)) ≡ (b && (a && c))
and_swap true b c = refl
and_swap false true c = refl
and_swap false false c = refl

-- what holds of both arms of a choice holds of the choice, with the test known in each
pub chosen : {A : Type 0} (P : A → Type 0) (b : Bool) {x y : A} → (b ≡ true → P x) → (b ≡ false → P y) → P (cond b x y)
chosen P true f g = f refl
chosen P false f g = g refl

pub cond_yes : {A : Type 0} (x y : A) {b : Bool} → b ≡ true → cond b x y ≡ x
cond_yes x y e = rw e

pub cond_no : {A : Type 0} (x y : A) {b : Bool} → b ≡ false → cond b x y ≡ y
cond_no x y e = rw e

pub push : {A B : Type 0} (f : A → B) (b : Bool) (x y : A) → cond b (f x) (f y) ≡ f (cond b x y)
push f true x y = refl
push f false x y = refl

-- by cases on a test, with its outcome in hand
pub by_test : {P : Type 0} (b : Bool) → (b ≡ true → P) → (b ≡ false → P) → P
by_test true f g = f refl
by_test false f g = g refl

-- a test's outcome, from what the function that made it ensures
pub so : {A : Type 0} {r t b : A} → r ≡ t → r ≡ b → t ≡ b
so p q = sym p ∙ q

-- ---- a refusal's code that came to 0
no_code : {X : Type 0} (n : ℕ) → suc n ≡ 0 → X
no_code n e = absurd (omega (arith, e))

pub zero_then : (b : Bool) (n : ℕ) → cond b 0 (suc n) ≡ 0 → b ≡ true
zero_then true n e = refl
zero_then false n e = no_code n e

pub zero_else : (b : Bool) (n m : ℕ) → cond b (suc n) m ≡ 0 → (b ≡ false) × (m ≡ 0)
zero_else true n m e = no_code n e
zero_else false n m e = (refl, e)

pub zero_if : (b : Bool) (m n : ℕ) → cond b m (suc n) ≡ 0 → (b ≡ true) × (m ≡ 0)
zero_if true m n e = (refl, e)
zero_if false m n e = no_code n e
