-- The first line feed of a text: what stands before and after it, and a text that has none.
use Prim.Native.Nat.{ℕ, ◌+◌, ◌<◌}
use mathlib.Core.Path.{◌≡◌, refl, sym, ap, ◌∙◌}
use mathlib.Core.Bool.{true, not}
use mathlib.Core.List.{List, [], ◌∷◌, ◌++◌, append_assoc}
use native.Mathlib.Omega.{arith}
use lib.Dec.{eqb}
use lib.ListN.{length, take, drop}
use lib.Seq.{take-length}
use Rattle.whole.proofs.Truth.{and, chosen}
use Rattle.word.specs.End.{end_at, feed}
use Rattle.word.proofs.Words.{at_byte}
use Rattle.stream.specs.Feed.{plain}

pub feed_split : (n : ℕ) (s : List ℕ) → n ≡ end_at feed s → n < length s → s ≡ (take n s ++ (feed ∷ [])) ++ drop (n + 1) s
feed_split n s e h =
    at_byte feed s (omega (arith, e)) ∙ ap (λ (i : ℕ). take i s ++ (feed ∷ drop (i + 1) s)) (sym e) ∙ sym (append_assoc (take n s) (feed ∷ []) (drop (n + 1) s))

before_plain : (s : List ℕ) → plain (take (end_at feed s) s) ≡ true
before_plain [] = refl
before_plain (x ∷ s) =
    chosen (λ (n : ℕ). plain (take n (x ∷ s)) ≡ true) (eqb x feed) (λ _. refl) (λ e. and (ap not e) (before_plain s))

-- no line feed stands before the first
pub feed_plain : (n : ℕ) (s : List ℕ) → n ≡ end_at feed s → plain (take n s) ≡ true
feed_plain n s e = ap (λ (i : ℕ). plain (take i s)) e ∙ before_plain s

-- nor anywhere, where none is found
pub plain_to_end : (n : ℕ) (s : List ℕ) → n ≡ end_at feed s → n ≡ length s → plain s ≡ true
plain_to_end n s e h = ap plain (sym (take-length s)) ∙ ap (λ (i : ℕ). plain (take i s)) (sym h) ∙ feed_plain n s e
