-- Laws of the tests of a decimal's form.
use Prim.Native.Nat.{ℕ, zero, suc, ◌+◌, ◌-◌, ◌*◌, ◌^◌, ◌<◌, ◌≤◌}
use mathlib.Core.Path.{◌≡◌, refl, sym, ap, ◌∙◌}
use mathlib.Core.Bool.{true, false, cond, not, ◌&&◌}
use mathlib.Core.List.{List, [], ◌∷◌}
use native.Mathlib.Nat.{zero-add, add-zero, pow-suc, pow-le-pow_right}
use native.Mathlib.Numerals.{add-one}
use native.Mathlib.Omega.{arith}
use borrow.Author.Tests.{le-leb, lt-leb, le-ltb, leb-true, not-true}
use lib.Dec.{eqb, leb, lit<}
use lib.ListN.{length, take}
use lib.IntN.{pos, neg_ℤ, ◌-ℤ◌, +ℤ_idl}
use lib.Pointwise.{pointwise}
use mir.Syntax.{w32, w64}
use mir.Val.{SFits, to_z}
use mir.Facts.{to_z_pos}
use Rattle.whole.proofs.Truth.{both, and, and_comm, never, push, by_test}
use Rattle.word.specs.Decimal.{is_digit, all_digits, most_digits, long_digits, leading_zero, is_size, has_minus, unsigned, size_from, size_of, is_decimal, number_of, decimal_of, lowest, signed_of}
use Rattle.std.specs.Prelude.{Option, Some, None}

-- a word with a minus is not empty
pub minus_there : (w : List ℕ) → has_minus w ≡ true → 0 < length w
unfolding has_minus
minus_there [] e = never e
minus_there (b ∷ w) e = omega arith

-- what a test for a minus at a word's beginning says
pub starts_minus : (w : List ℕ) → pointwise eqb (take 1 w) (45 ∷ []) ≡ has_minus w
unfolding has_minus
starts_minus [] = refl
starts_minus (b ∷ w) = and_comm (eqb b 45) true

pub record Digit (b : ℕ) : Type 0 where
  pub low : 48 ≤ b
  pub high : b ≤ 57

pub digit : (b : ℕ) → is_digit b ≡ true → Digit b
digit b e =
    let h = both (leb 48 b) (leb b 57) e in
    record { low = leb-true 48 b h.0; high = leb-true b 57 h.1 }

pub record Sized (most : ℕ) (w : List ℕ) : Type 0 where
  pub some : 1 ≤ length w
  pub few : length w ≤ most
  pub all : all_digits w ≡ true
  pub lead : leading_zero w ≡ false

pub sized : (most : ℕ) (w : List ℕ) → is_size most w ≡ true → Sized most w
unfolding is_size
sized most w e =
    let h = both (leb 1 (length w) && leb (length w) most) (all_digits w && not (leading_zero w)) e in
    let l = both (leb 1 (length w)) (leb (length w) most) h.0 in
    let d = both (all_digits w) (not (leading_zero w)) h.1 in
    record {
      some = leb-true 1 (length w) l.0;
      few = leb-true (length w) most l.1;
      all = d.0;
      lead = not-true (leading_zero w) d.1;
    }

pub is_sized : (most : ℕ) (w : List ℕ) → Sized most w → is_size most w ≡ true
unfolding is_size
is_sized most w s = and (and (le-leb 1 (length w) s.some) (le-leb (length w) most s.few)) (and s.all (ap not s.lead))

-- a word with a fault is none, and one without any other is one exactly when all are digits
pub unsized : (most : ℕ) (w : List ℕ) → (Sized most w → ⊥) → is_size most w ≡ false
unsized most w fault = by_test (is_size most w) (λ e. absurd (fault (sized most w e))) (λ e. e)

pub size_if_digits : (most : ℕ) (w : List ℕ) → 1 ≤ length w → length w ≤ most → leading_zero w ≡ false → is_size most w ≡ all_digits w
unfolding is_size
size_if_digits most w s f l = rw (le-leb 1 (length w) s, le-leb (length w) most f, l) (and_comm (all_digits w) true)

-- what digits are, and what is made of them by that
abbrev pub size_in : ℕ → List ℕ → Option ℕ
size_in most w = cond (is_size most w) (Some (size_of w)) None

abbrev pub made : {A : Type 0} → (ℕ → A) → A → Option ℕ → A
made f none (Some n) = f n
made f none None = none

pub made_of : {A : Type 0} (f : ℕ → A) (none : A) (most : ℕ) (w : List ℕ) {s : Option ℕ} → s ≡ size_in most w →
    cond (is_size most w) (f (size_of w)) none ≡ made f none s
made_of f none most w e = push (made f none) (is_size most w) (Some (size_of w)) None ∙ sym (ap (made f none) e)

-- ---- how large a number k digits can make

pub step_bound : (k n d : ℕ) → n < 10 ^ k → d ≤ 9 → n * 10 + d < 10 ^ (k + 1)
step_bound k n d h l = rw (add-one, pow-suc) (omega arith)

pub small : (k n : ℕ) → n < 10 ^ k → k < long_digits → n < 1000000000
small k n h l = omega (arith, pow-le-pow_right {n = 10} (lit< tt) {i = k} {j = 9} (omega arith))

size_below : (w : List ℕ) (n k : ℕ) → n < 10 ^ k → all_digits w ≡ true → size_from n w < 10 ^ (k + length w)
size_below [] n k h e = rw add-zero h
size_below (b ∷ w) n k h e =
    let d = both (is_digit b) (all_digits w) e in
    let g = digit b d.0 in
    let q : k + suc (length w) ≡ k + 1 + length w = omega arith in
    rw q (size_below w (n * 10 + (b - 48)) (k + 1) (step_bound k n (b - 48) h (omega arith)) d.1)

pub size_small : (w : List ℕ) → is_size most_digits w ≡ true → size_of w < 10 ^ 7
unfolding size_of
size_small w e =
    let s = sized most_digits w e in
    let h : size_of w < 10 ^ length w = rw zero-add at (size_below w 0 0 (omega arith) s.all) in
    omega (arith, pow-le-pow_right {n = 10} (lit< tt) {i = length w} {j = 7} s.few)

-- ---- a size with its sign turned

-- what a minus makes of a number fits 32 bits
pub neg_fits : (n : ℕ) → 0 < n → n ≤ lowest → SFits w32 (neg_ℤ (pos n))
neg_fits zero h l = absurd (omega arith)
neg_fits (suc n) h l = record { sfits = omega arith }

pub wide_fits : (n : ℕ) → n ≤ lowest → SFits w64 (neg_ℤ (pos n))
wide_fits zero l = record { sfits = omega arith }
wide_fits (suc n) l = record { sfits = omega arith }

-- what `0 - n` is, of a number that a cast made signed
pub turned : (n : ℕ) → n ≤ lowest → (pos 0 -ℤ to_z w64 n) ≡ neg_ℤ (pos n)
turned n l = rw (to_z_pos w64 {n = n} (omega arith)) (+ℤ_idl (neg_ℤ (pos n)))

-- ---- what reading a word answers

module _ (w : List ℕ) where
  pub no_size : is_size most_digits (unsigned w) ≡ false → decimal_of w ≡ None
  unfolding is_decimal
  no_size e = rw e

  -- seven digits are always within 32 bits
  pub within_bits : signed_of most_digits w ≡ decimal_of w
  unfolding signed_of is_decimal number_of
  within_bits =
      let n = size_of (unsigned w) in
      by_test (is_size most_digits (unsigned w))
      (λ e.
      let h = size_small (unsigned w) e in
      let high : leb lowest n ≡ false = lt-leb lowest n (omega arith) in
      let low = le-ltb lowest n (omega arith) in
      by_test (has_minus w) (λ m. by_test (eqb n 0) (λ z. simp (e, m, z)) (λ z. simp (e, m, z, low))) (λ m. simp (e, m, high)))
      (λ e. rw e)
