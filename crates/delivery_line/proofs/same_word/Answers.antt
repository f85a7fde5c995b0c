use Prim.Native.Nat.{ℕ, suc}
use mathlib.Core.Path.{◌≡◌, refl, sym, ap, ◌∙◌}
use mathlib.Core.Bool.{Bool, true, false, ◌&&◌}
use mathlib.Core.List.{List, [], ◌∷◌}
use native.Mathlib.Omega.{arith}
use borrow.Author.Tests.{eq-eqb, ne_eqb, eqb-true, eqb-false}
use lib.Dec.{eqb}
use lib.ListN.{length}
use lib.Pointwise.{pointwise}
use Rattle.whole.proofs.Truth.{by_test}
use Rattle.word.specs.End.{begins}
use Rattle.delivery_line.specs.Line.{same_word}
use Rattle.delivery_line.proofs.same_word.Goals as goal

grouped : (t u v : Bool) → (t && (u && v)) ≡ ((t && u) && v)
grouped true u v = refl
grouped false u v = refl

eqb_more : (a b : ℕ) → eqb a b ≡ eqb (suc a) (suc b)
eqb_more a b =
    by_test (eqb a b)
    (λ e. e ∙ sym (eq-eqb (suc a) (suc b) (ap suc (eqb-true a b e))))
    (λ e. e ∙ sym (ne_eqb (suc a) (suc b) (λ q. eqb-false a b e (omega (arith, q)))))

-- equal words are a word that begins with the other and is as long
same_is : (key word : List ℕ) → pointwise eqb word key ≡ same_word key word
same_is [] [] = refl
same_is [] (b ∷ w) = sym (ne_eqb (suc (length w)) 0 (λ e. omega arith))
same_is (k ∷ ks) [] = refl
same_is (k ∷ ks) (b ∷ w) =
    ap (λ (t : Bool). eqb b k && t) (same_is ks w)
    ∙ grouped (eqb b k) (begins ks w) (eqb (length w) (length ks))
    ∙ ap (λ (t : Bool). (eqb b k && begins ks w) && t) (eqb_more (length w) (length ks))

pub returns : goal.returns
returns c = c.eq.ensures ∙ same_is c.args.key.now c.args.word.now
