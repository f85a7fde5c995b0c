-- A decimal there and back: what is written is read, and what is read is what is written.
use Prim.Native.Nat.{ℕ, zero, suc, ◌+◌, ◌-◌, ◌*◌, ◌/◌, ◌%◌, ◌^◌, ◌<◌, ◌≤◌}
use mathlib.Core.Path.{◌≡◌, refl, sym, ap, ◌∙◌, subst}
use mathlib.Core.Bool.{true, false, cond, not}
use mathlib.Core.List.{List, [], ◌∷◌, ◌++◌, append_assoc, append-nil}
use native.Mathlib.Nat.{zero-add, pow-suc}
use native.Mathlib.Omega.{arith}
use borrow.Author.Tests.{eq-eqb, ne_eqb, eqb-true, eqb-false, le-leb, lt-ltb, not-true}
use lib.Dec.{eqb}
use lib.IntN.{ℤ, pos, negsuc, neg_ℤ, nat_abs}
use lib.ListN.{length, get_or, drop, length-append}
use Rattle.whole.proofs.Truth.{both, and, never, chosen, by_test}
use Rattle.word.specs.Decimal.{is_digit, all_digits, leading_zero, most_digits, is_size, has_minus, unsigned, size_from, size_of, is_decimal, number_of, digits, shown, decimal}
use Rattle.word.proofs.Digits.{Digit, digit, sized, is_sized, size_small}

-- ---- the digits of a number

-- more digits than there are change nothing
pub fuel : (f g n : ℕ) → n ≤ f → n ≤ g → digits f n ≡ digits g n
fuel zero zero n h k = refl
fuel zero (suc g) n h k = rw (eq-eqb n 0 (omega arith))
fuel (suc f) zero n h k = rw (eq-eqb n 0 (omega arith))
fuel (suc f) (suc g) n h k =
    ap (λ (r : List ℕ). cond (eqb n 0) [] (r ++ ((48 + n % 10) ∷ []))) (fuel f g (n / 10) (omega arith) (omega arith))

-- the digits of n, none where it is 0
abbrev pub front : ℕ → List ℕ
front n = digits n n

pub shown_last : (n : ℕ) → shown n ≡ front (n / 10) ++ ((48 + n % 10) ∷ [])
unfolding shown
shown_last n = ap (λ (r : List ℕ). r ++ ((48 + n % 10) ∷ [])) (fuel n (n / 10) (n / 10) (omega arith) (omega arith))

pub front_some : (n : ℕ) → 0 < n → front n ≡ shown n
unfolding shown
front_some zero h = absurd (omega arith)
front_some (suc n) h =
    rw (ne_eqb (suc n) 0 (λ e. omega arith))
    (ap (λ (r : List ℕ). r ++ ((48 + suc n % 10) ∷ [])) (fuel n (suc n) (suc n / 10) (omega arith) (omega arith)))

-- what holds of no digits, and of one more wherever it holds of those before it, holds of the digits of any number
by_digits : (P : ℕ → List ℕ → Type 0) → P 0 [] →
    ((n : ℕ) (w : List ℕ) → 0 < n → P (n / 10) w → P n (w ++ ((48 + n % 10) ∷ []))) → (n : ℕ) → P n (front n)
by_digits P base step n = go n n (omega arith) where
  start : (m : ℕ) → m ≡ 0 → P m []
  start m e = subst (λ (k : ℕ). P k []) (sym e) base

  go : (f m : ℕ) → m ≤ f → P m (digits f m)
  go zero m h = start m (omega arith)
  go (suc f) m h = chosen (P m) (eqb m 0) (λ e. start m (eqb-true m 0 e))
      (λ e. let z = eqb-false m 0 e in step m (digits f (m / 10)) (omega arith) (go f (m / 10) (omega arith)))

-- ---- what is written has the form of a size

digits_more : (w : List ℕ) (d : ℕ) → d < 10 → all_digits w ≡ true → all_digits (w ++ ((48 + d) ∷ [])) ≡ true
digits_more [] d h e = and (and (le-leb 48 (48 + d) (omega arith)) (le-leb (48 + d) 57 (omega arith))) refl
digits_more (b ∷ w) d h e =
    let t = both (is_digit b) (all_digits w) e in
    and t.0 (digits_more w d h t.1)

size_more : (w : List ℕ) (n d : ℕ) → size_from n (w ++ ((48 + d) ∷ [])) ≡ size_from n w * 10 + d
size_more [] n d = omega arith
size_more (b ∷ w) n d = size_more w (n * 10 + (b - 48)) d

record Front (n : ℕ) (w : List ℕ) : Type 0 where
  all : all_digits w ≡ true
  same : size_from 0 w ≡ n
  few : (k : ℕ) → n < 10 ^ k → length w ≤ k
  some : 0 < n → 0 < length w
  lead : 0 < n → get_or w 0 0 ≡ 48 → ⊥

front_next : (n : ℕ) (w : List ℕ) → 0 < n → Front (n / 10) w → Front n (w ++ ((48 + n % 10) ∷ []))
front_next n w h g = record {
  all = digits_more w (n % 10) (omega arith) g.all;
  same = size_more w 0 (n % 10) ∙ omega (arith, g.same);
  few = few_more;
  some = λ _. simp length-append (omega arith);
  lead = λ _. lead_more w g;
} where
  few_more : (k : ℕ) → n < 10 ^ k → length (w ++ ((48 + n % 10) ∷ [])) ≤ k
  few_more zero l = absurd (omega arith)
  few_more (suc k) l = simp length-append (omega (arith, g.few k (omega (arith, pow-suc 10 k))))

  lead_more : (v : List ℕ) → Front (n / 10) v → get_or (v ++ ((48 + n % 10) ∷ [])) 0 0 ≡ 48 → ⊥
  lead_more [] q e = omega (arith, q.same)
  lead_more (b ∷ v) q e = at (n / 10) refl where
    at : (k : ℕ) → n / 10 ≡ k → ⊥
    at zero z = omega (arith, q.few 0 (omega arith))
    at (suc k) z = q.lead (omega arith) e

front_form : (n : ℕ) → Front n (front n)
front_form =
    by_digits Front
    (record {
      all = refl;
      same = refl;
      few = λ k h. omega arith;
      some = λ h. absurd (omega arith);
      lead = λ h. absurd (omega arith);
    })
    front_next

no_lead : (w : List ℕ) → (get_or w 0 0 ≡ 48 → ⊥) → leading_zero w ≡ false
no_lead w f = rw (ne_eqb (get_or w 0 0) 48 f)

pub record Sizes (n : ℕ) (w : List ℕ) : Type 0 where
  pub some : 1 ≤ length w
  pub few : (k : ℕ) → 0 < k → n < 10 ^ k → length w ≤ k
  pub all : all_digits w ≡ true
  pub lead : leading_zero w ≡ false
  pub same : size_of w ≡ n

pub shown_form : (n : ℕ) → Sizes n (shown n)
unfolding size_of shown
shown_form zero = record { some = omega arith; few = λ k p h. omega arith; all = refl; lead = refl; same = refl }
shown_form (suc n) = subst (Sizes (suc n)) (front_some (suc n) (omega arith)) (at (front_form (suc n))) where
  at : Front (suc n) (front (suc n)) → Sizes (suc n) (front (suc n))
  at g = record {
    some = g.some (omega arith);
    few = λ k p h. g.few k h;
    all = g.all;
    lead = no_lead (front (suc n)) (g.lead (omega arith));
    same = g.same;
  }

-- ---- a word that has the form of a size is what is written

front_size : (s : List ℕ) (n : ℕ) → 0 < n → all_digits s ≡ true → front (size_from n s) ≡ front n ++ s
front_size [] n h e = sym (append-nil (front n))
front_size (b ∷ s) n h e =
    let t = both (is_digit b) (all_digits s) e in
    let d = digit b t.0 in
    let m = n * 10 + (b - 48) in
    let q : m / 10 ≡ n = omega arith in
    let r : 48 + m % 10 ≡ b = omega arith in
    front_size s m (omega arith) t.1 ∙ ap (λ (p : List ℕ). p ++ s) (front_some m (omega arith) ∙ shown_last m) ∙ simp (q, r, append_assoc)

size_grows : (s : List ℕ) (n : ℕ) → n ≤ size_from n s
size_grows [] n = omega arith
size_grows (b ∷ s) n = omega (arith, size_grows s (n * 10 + (b - 48)))

lead_not : (w : List ℕ) → leading_zero w ≡ false → 1 < length w → get_or w 0 0 ≡ 48 → ⊥
lead_not w e h q = never (sym e ∙ and (eq-eqb (get_or w 0 0) 48 q) (lt-ltb 1 (length w) h))

first_shown : (b : ℕ) → Digit b → shown (b - 48) ≡ b ∷ []
first_shown b d =
    let q : (b - 48) / 10 ≡ 0 = omega arith in
    let r : 48 + (b - 48) % 10 ≡ b = omega arith in
    shown_last (b - 48) ∙ simp (q, r)

size_shown : (w : List ℕ) → is_size most_digits w ≡ true → shown (size_of w) ≡ w
unfolding size_of
size_shown [] e = absurd (let h = sized most_digits [] e in omega arith)
size_shown (b ∷ []) e =
    let h = sized most_digits (b ∷ []) e in
    simp zero-add (first_shown b (digit b (both (is_digit b) true h.all).0))
size_shown (b ∷ c ∷ s) e =
    let h = sized most_digits (b ∷ c ∷ s) e in
    let t = both (is_digit b) (all_digits (c ∷ s)) h.all in
    let d = digit b t.0 in
    let l = lead_not (b ∷ c ∷ s) h.lead (omega arith) in
    let g = size_grows (c ∷ s) (b - 48) in
    let n : 0 < b - 48 = omega arith in
    rw zero-add
    (sym (front_some (size_from (b - 48) (c ∷ s)) (omega arith))
    ∙ front_size (c ∷ s) (b - 48) n t.1
    ∙ ap (λ (p : List ℕ). p ++ (c ∷ s)) (front_some (b - 48) n ∙ first_shown b d))

-- ---- the two ways round

first_digit : (w : List ℕ) → 1 ≤ length w → all_digits w ≡ true → has_minus w ≡ false
unfolding has_minus
first_digit [] h e = absurd (omega arith)
first_digit (b ∷ w) h e = let d = digit b (both (is_digit b) (all_digits w) e).0 in ne_eqb b 45 (λ q. omega arith)

with_minus : (w : List ℕ) → has_minus (45 ∷ w) ≡ true
unfolding has_minus
with_minus w = refl

pub record Reads (w : List ℕ) (z : ℤ) : Type 0 where
  pub form : is_decimal w ≡ true
  pub number : number_of w ≡ z

shown_size : (n : ℕ) → n < 10 ^ 7 → is_size most_digits (shown n) ≡ true
shown_size n h =
    let s = shown_form n in
    is_sized most_digits (shown n) (record { some = s.some; few = s.few most_digits (omega arith) h; all = s.all; lead = s.lead })

-- what is written for a number of at most 7 digits is read as that number
pub decimal_read : (z : ℤ) → nat_abs z < 10 ^ 7 → Reads (decimal z) z
unfolding is_decimal number_of unsigned
decimal_read (pos n) h =
    let s = shown_form n in
    let m = first_digit (shown n) s.some s.all in
    record { form = simp (m, shown_size n h); number = simp m (ap pos s.same) }
decimal_read (negsuc n) h =
    let s = shown_form (suc n) in
    let m : has_minus (45 ∷ shown (suc n)) ≡ true = with_minus (shown (suc n)) in
    record { form = simp (m, shown_size (suc n) h, s.same, ne_eqb (suc n) 0 (λ e. omega arith)); number = simp (m, s.same) }

pub record Stands (w : List ℕ) : Type 0 where
  pub same : decimal (number_of w) ≡ w
  pub small : nat_abs (number_of w) < 10 ^ 7

stands : (w : List ℕ) (z : ℤ) → number_of w ≡ z → decimal z ≡ w → nat_abs z < 10 ^ 7 → Stands w
stands w z q e h = record { same = ap decimal q ∙ e; small = rw q h }

unsigned_stands : (w : List ℕ) → has_minus w ≡ false → is_decimal w ≡ true → Stands w
unfolding is_decimal number_of unsigned
unsigned_stands w m e =
    let f : is_size most_digits w ≡ true = (both (is_size most_digits w) true (simp m at e)).0 in
    stands w (pos (size_of w)) (simp m) (size_shown w f) (size_small w f)

minus_first : (w : List ℕ) → has_minus w ≡ true → w ≡ 45 ∷ drop 1 w
unfolding has_minus
minus_first [] m = never m
minus_first (b ∷ w) m = ap (λ (x : ℕ). x ∷ w) (eqb-true b 45 m)

negative : (n : ℕ) (w : List ℕ) → eqb n 0 ≡ false → shown n ≡ w → decimal (neg_ℤ (pos n)) ≡ 45 ∷ w
negative zero w z e = never (sym z)
negative (suc n) w z e = ap (λ (v : List ℕ). 45 ∷ v) e

abs_negative : (n : ℕ) → nat_abs (neg_ℤ (pos n)) ≡ n
abs_negative zero = refl
abs_negative (suc n) = refl

signed_stands : (w : List ℕ) → has_minus w ≡ true → is_decimal w ≡ true → Stands w
unfolding is_decimal number_of unsigned
signed_stands w m e =
    let t = both (is_size most_digits (drop 1 w)) (not (eqb (size_of (drop 1 w)) 0)) (simp m at e) in
    let n = size_of (drop 1 w) in
    stands w (neg_ℤ (pos n)) (simp m)
    (negative n (drop 1 w) (not-true (eqb n 0) t.1) (size_shown (drop 1 w) t.0) ∙ sym (minus_first w m))
    (rw (abs_negative n) (size_small (drop 1 w) t.0))

-- a word that is read as a number is what is written for it, and the number has at most 7 digits
pub read_decimal : (w : List ℕ) → is_decimal w ≡ true → Stands w
read_decimal w e = by_test (has_minus w) (λ m. signed_stands w m e) (λ m. unsigned_stands w m e)
