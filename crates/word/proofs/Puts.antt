-- A text that is put into a buffer part by part.
use Prim.Native.Nat.{ℕ, ◌+◌, ◌^◌, ◌<◌, ◌≤◌}
use mathlib.Core.Path.{◌≡◌, refl, ap, ◌∙◌}
use mathlib.Core.List.{List, [], ◌++◌}
use native.Mathlib.Omega.{arith}
use lib.ListN.{length, length-append}
use lib.Seq.{sets}
use Rattle.word.specs.Decimal.{shown}
use Rattle.word.proofs.Decimals.{shown_form}
use Rattle.word.proofs.Stores.{sets_append}

-- the list l is l₀ with text put from place at on, and n is the place after it
pub record Puts (l₀ : List ℕ) (at : ℕ) (text l : List ℕ) (n : ℕ) : Type 0 where
  pub place : n ≡ at + length text
  pub holds : l ≡ sets l₀ at text

pub puts_none : {l : List ℕ} {at : ℕ} → Puts l at [] l at
puts_none {l} {at} = record { place = omega arith; holds = refl }

-- one part more
pub puts_more : {l₀ text l l' : List ℕ} {at n n' : ℕ} → Puts l₀ at text l n → (part : List ℕ) → l' ≡ sets l n part → n' ≡ n + length part →
    Puts l₀ at (text ++ part) l' n'
puts_more {l₀} {text} {l} {l'} {at} {n} {n'} p part e h = record {
  place = simp length-append (omega (arith, p.place));
  holds = cc (sets_append l₀ at text part, p.place, p.holds);
}

-- the whole of it
pub puts_all : {l₀ text l : List ℕ} {at n : ℕ} → Puts l₀ at text l n → (whole : List ℕ) → text ≡ whole → (n ≡ at + length whole) × (l ≡ sets l₀ at whole)
puts_all {l₀} {text} {l} {at} {n} p whole e = (p.place ∙ ap (λ (w : List ℕ). at + length w) e, p.holds ∙ ap (sets l₀ at) e)

-- a code of 8 bits has at most three digits
pub code_room : (n : ℕ) → n < 2 ^ 8 → length (shown n) ≤ 3
code_room n h = (shown_form n).few 3 (omega arith) (omega arith)
