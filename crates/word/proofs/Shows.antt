-- How a decimal is put at the end of eleven bytes, from its last byte to its first.
use Prim.Native.Nat.{ℕ, zero, suc, ◌+◌, ◌-◌, ◌/◌, ◌%◌, ◌^◌, ◌<◌, ◌≤◌}
use mathlib.Core.Path.{◌≡◌, refl, ap, ◌∙◌}
use mathlib.Core.List.{List, ◌∷◌, ◌++◌, append_assoc}
use native.Mathlib.Nat.{pow-suc}
use native.Mathlib.Omega.{arith}
use lib.IntN.{ℤ, pos, negsuc, nat_abs}
use lib.ListN.{length, drop, set, replicate, length-replicate}
use lib.Seq.{sets, drop_at}
use mir.Syntax.{w32}
use mir.Val.{SFits}
use Rattle.word.specs.declared.decimal.Shown.{Shown}
use Rattle.word.specs.Decimal.{decimal_room, shown, decimal, padded}
use Rattle.word.proofs.Decimals.{front, front_some, shown_last, shown_form}
use Rattle.word.proofs.Signs.{abs_fits}

-- a byte before a text
set_zeros : (k : ℕ) (w : List ℕ) (b : ℕ) → set (replicate (suc k) 0 ++ w) k b ≡ replicate k 0 ++ (b ∷ w)
set_zeros zero w b = refl
set_zeros (suc k) w b = ap (λ (s : List ℕ). 0 ∷ s) (set_zeros k w b)

-- what stands at the end of eleven bytes: text, from place from on
pub record Ends (from : ℕ) (bytes text : List ℕ) : Type 0 where
  pub long : from + length text ≡ decimal_room
  pub are : bytes ≡ replicate from 0 ++ text

pub ends_more : (from : ℕ) (bytes text : List ℕ) (b : ℕ) → 0 < from → Ends from bytes text → Ends (from - 1) (set bytes (from - 1) b) (b ∷ text)
ends_more zero bytes text b h e = absurd (omega arith)
ends_more (suc k) bytes text b h e =
    let q : suc k - 1 ≡ k = omega arith in
    rw q (record { long = omega (arith, e.long); are = rw e.are (set_zeros k text b) })

pub ends_padded : {from : ℕ} {bytes text : List ℕ} → Ends from bytes text → record { bytes = bytes; from = from } ≡ padded text
ends_padded {from} {bytes} {text} e =
    let q : decimal_room - length text ≡ from = omega (arith, e.long) in
    rw (q, e.are)

-- the digits of n but for those of left, which are still to be put before them
pub record Partly (n left from : ℕ) (bytes : List ℕ) : Type 0 where
  pub tail : List ℕ
  pub ends : Ends from bytes tail
  pub room : left < 10 ^ from
  pub digits : shown n ≡ front left ++ tail

pub partly_place : {n left from : ℕ} {bytes : List ℕ} → 0 < left → Partly n left from bytes → (0 < from) × (from ≤ decimal_room)
partly_place {from = zero} h p = absurd (omega (arith, p.room))
partly_place {from = suc k} h p = omega (arith, p.ends.long)

pub partly_more : (n left from : ℕ) (bytes : List ℕ) → 0 < left → Partly n left from bytes →
    Partly n (left / 10) (from - 1) (set bytes (from - 1) (48 + left % 10))
partly_more n left zero bytes h p = absurd (omega (arith, p.room))
partly_more n left (suc k) bytes h p = record {
  tail = (48 + left % 10) ∷ p.tail;
  ends = ends_more (suc k) bytes p.tail (48 + left % 10) (omega arith) p.ends;
  room = let q : suc k - 1 ≡ k = omega arith in rw q (omega (arith, pow-suc 10 k, p.room));
  digits = p.digits ∙ ap (λ (w : List ℕ). w ++ p.tail) (front_some left h ∙ shown_last left) ∙ simp append_assoc;
}

pub partly_all : (n from : ℕ) (bytes : List ℕ) → Partly n 0 from bytes → Ends from bytes (shown n)
partly_all n from bytes p = rw p.digits p.ends

-- a decimal's digits, and its minus before them
pub padded_more : (w : List ℕ) (b : ℕ) → length w ≤ 10 →
    record { bytes = set (padded w).bytes ((padded w).from - 1) b; from = (padded w).from - 1 } ≡ padded (b ∷ w)
padded_more w b h =
    ends_padded (ends_more (decimal_room - length w) (padded w).bytes w b (omega arith) (record { long = omega arith; are = refl }))

-- a decimal of 32 bits has at most eleven bytes
pub decimal_room_lem : (z : ℤ) → SFits w32 z → length (decimal z) ≤ decimal_room
decimal_room_lem z f = let h = (abs_fits z f).fits in at z h where
  at : (x : ℤ) → nat_abs x < 2 ^ 32 → length (decimal x) ≤ decimal_room
  at (pos n) h = omega (arith, (shown_form n).few 10 (omega arith) (omega arith))
  at (negsuc n) h = omega (arith, (shown_form (suc n)).few 10 (omega arith) (omega arith))

-- and a number of 32 bits without a sign has at most ten
pub shown_room : (n : ℕ) → n < 2 ^ 32 → length (shown n) ≤ 10
shown_room n h = (shown_form n).few 10 (omega arith) (omega arith)

-- what is put of eleven bytes is the text that stands at their end
pub shown_stored : {l₁ : List ℕ} {n : ℕ} {s : Shown} (l₀ : List ℕ) (at : ℕ) (w : List ℕ) → length w ≤ decimal_room → s ≡ padded w →
    (n ≡ decimal_room - s.from) × (l₁ ≡ sets l₀ at (drop s.from s.bytes)) → (n ≡ length w) × (l₁ ≡ sets l₀ at w)
shown_stored {l₁} {n} {s} l₀ at w h e p =
    let k = decimal_room - length w in
    let q = rw e at p in
    (omega (arith, q.0), q.1 ∙ ap (sets l₀ at) (drop_at (replicate k 0) w k (length-replicate k 0)))
