-- An array that a function of the place makes.
use Prim.Native.Nat.{ℕ, zero, suc, ◌+◌, ◌<◌, ◌≤◌}
use mathlib.Core.Path.{◌≡◌, sym, subst, ◌∙◌}
use mathlib.Core.List.{List}
use native.Mathlib.Omega.{arith}
use lib.ListN.{length, get_or, take}
use denote.Param.Members.{Mut, Called}
use Rattle.std.specs.Array.{IsFromFnResult, IsFromFnResultFrom}
use lib.Seq.{length-take-le}
use Rattle.std.proofs.lemmas.List.{get_or-take}
use Rattle.std.proofs.lemmas.List.FromFn.{fill_by_all}

module _ {F B : Type 0} (g : Mut F (ℕ × Unit {0}) B) (f : F) (h : ℕ → B)
    (gives : (i : ℕ) (y : B) (q : F) → Called g f (i, tt) y q → (y ≡ h i) × (q ≡ f)) where
  made_from : (ys : List B) (d : B) (n i k : ℕ) → IsFromFnResultFrom g f ys i n → k < n → get_or ys (i + k) d ≡ h (i + k)
  made_from ys d zero i k m l = absurd (omega arith)
  made_from ys d (suc n) i zero m l =
      let p : i + 0 ≡ i = omega arith in
      rw p (m.2.1 d ∙ (gives i m.1 m.0 m.3).0)
  made_from ys d (suc n) i (suc k) m l =
      let p : i + suc k ≡ (i + 1) + k = omega arith in
      rw p (made_from ys d n (i + 1) k (subst (λ (q : F). IsFromFnResultFrom g q ys (i + 1) n) (gives i m.1 m.0 m.3).1 m.4) (omega arith))

  -- each place has what the function gives for it
  pub made_at : (ys : List B) (d : B) (n : ℕ) → IsFromFnResult g f ys n → (k : ℕ) → k < n → get_or ys k d ≡ h k
  made_at ys d n m k l =
      let p : 0 + k ≡ k = omega arith in
      subst (λ (j : ℕ). get_or ys j d ≡ h j) p (made_from ys d n 0 k m.each l)

-- an array made of the front of a list
pub made_all : {F B : Type 0} (g : Mut F (ℕ × Unit {0}) B) (f : F) (all : List B) (d : B) →
    ((i : ℕ) (y : B) (q : F) → Called g f (i, tt) y q → (y ≡ get_or all i d) × (q ≡ f)) →
    (ys : List B) (n : ℕ) → IsFromFnResult g f ys n → n ≤ length all → ys ≡ take n all
made_all g f all d gives ys n m l =
    let h = λ (k : ℕ). get_or all k d in
    fill_by_all h ys n d m.long (made_at g f h gives ys d n m)
    ∙ sym (fill_by_all h (take n all) n d (length-take-le n all l) (λ k e. get_or-take n all k d e))
