-- What `array::from_fn` makes where its closure stays the same and answers h of each place.
use Prim.Native.Nat.{ℕ, zero, suc, ◌+◌, ◌<◌, ◌≤◌}
use mathlib.Core.Path.{◌≡◌, subst, ap, sym, ◌∙◌}
use mathlib.Core.List.{List, map}
use native.Mathlib.Omega.{arith}
use borrow.Author.Tests.{eqb-true, eqb-false}
use denote.Param.Members.{Mut}
use lib.Dec.{eqb}
use lib.ListN.{get_or}
use Rattle.std.specs.Array.{IsFromFnResult, IsFromFnResultFrom}
use Rattle.std.specs.Fn.{Called}
use Rattle.std.specs.List.{range_with_len}
use Rattle.std.proofs.lemmas.List.FromFn.{fill_by_all}
use Rattle.whole.proofs.Truth.{by_test}

module _ {F B : Type 0} (g : Mut F (ℕ × Unit {0}) B) (h : ℕ → B) (f : F) (told : (i : ℕ) (y : B) (q : F) → Called g f (i, tt) y q → (q ≡ f) × (y ≡ h i)) where
  made_from : (n i : ℕ) (ys : List B) → IsFromFnResultFrom g f ys i n → (k : ℕ) (d : B) → i ≤ k → k < i + n → get_or ys k d ≡ h k
  made_from zero i ys e k d low high = absurd (omega arith)
  made_from (suc n) i ys e k d low high =
      let t = told i e.1 e.0 e.3 in
      by_test (eqb k i)
      (λ s. ap (λ (j : ℕ). get_or ys j d) (eqb-true k i s) ∙ e.2.1 d ∙ t.1 ∙ ap h (sym (eqb-true k i s)))
      (λ s.
      let apart = eqb-false k i s in
      made_from n (i + 1) ys (subst (λ (p : F). IsFromFnResultFrom g p ys (i + 1) n) t.0 e.4) k d (omega (arith, apart)) (omega arith))

  pub made : (n : ℕ) (ys : List B) → IsFromFnResult g f ys n → ys ≡ map h (range_with_len 0 n)
  made n ys e = fill_by_all h ys n (h 0) e.long (λ k l. made_from n 0 ys e.each k (h 0) (omega arith) (omega arith))
