-- Entries that come before old ones: what stands at each place, and that it is the same to remember them one by one.
use Prim.Native.Nat.{ℕ, zero, suc, ◌+◌, ◌-◌, ◌<◌, ◌≤◌, min}
use mathlib.Core.Path.{◌≡◌, refl, ap, sym, ◌∙◌}
use mathlib.Core.List.{List, [], ◌∷◌, ◌++◌}
use native.Mathlib.Omega.{arith}
use borrow.Author.Tests.{leb-true, leb-false}
use lib.Dec.{leb}
use lib.IntN.{ℤ, pos}
use lib.ListN.{length, take, get_or}
use lib.Seq.{take-take}
use Rattle.whole.proofs.Truth.{by_test}
use Rattle.command.specs.declared.Command.TheVariants.{Sample}
use Rattle.memory.specs.declared.Entry.{Entry}
use Rattle.memory.specs.Memory.{entry_of, no_entry, newest, entries_of}

-- ---- the entries of samples

entries_length : (pvs us : List ℤ) → length (entries_of pvs us) ≡ min (length pvs) (length us)
entries_length [] us = omega arith
entries_length (pv ∷ pvs) [] = omega arith
entries_length (pv ∷ pvs) (u ∷ us) = let h = entries_length pvs us in omega (arith, h)

entries_at : (pvs us : List ℤ) (i : ℕ) → i < length pvs → i < length us →
    get_or (entries_of pvs us) i no_entry ≡ entry_of (Sample (get_or pvs i (pos 0))) (get_or us i (pos 0))
entries_at [] us i h k = absurd (omega arith)
entries_at (pv ∷ pvs) [] i h k = absurd (omega arith)
entries_at (pv ∷ pvs) (u ∷ us) zero h k = refl
entries_at (pv ∷ pvs) (u ∷ us) (suc i) h k = entries_at pvs us i (omega arith) (omega arith)

-- only as many outputs are looked at as there are samples
pub entries_front : (pvs us rest : List ℤ) → length us ≡ length pvs → entries_of pvs (us ++ rest) ≡ entries_of pvs us
entries_front [] us rest e = refl
entries_front (pv ∷ pvs) [] rest e = absurd (omega (arith, e))
entries_front (pv ∷ pvs) (u ∷ us) rest e = ap (λ (es : List Entry). entry_of (Sample pv) u ∷ es) (entries_front pvs us rest (omega (arith, e)))

-- ---- newest first

newest_length : (old es : List Entry) → length (newest old es) ≡ length old + length es
newest_length old [] = omega arith
newest_length old (e ∷ es) = newest_length (e ∷ old) es ∙ omega arith

pub cons_at : (x : Entry) (xs : List Entry) (i : ℕ) → 1 ≤ i → get_or (x ∷ xs) i no_entry ≡ get_or xs (i - 1) no_entry
cons_at x xs zero h = absurd (omega arith)
cons_at x xs (suc i) h = ap (λ (k : ℕ). get_or xs k no_entry) (omega arith)

newest_old : (old es : List Entry) (i : ℕ) → length es ≤ i → get_or (newest old es) i no_entry ≡ get_or old (i - length es) no_entry
newest_old old [] i h = ap (λ (k : ℕ). get_or old k no_entry) (omega arith)
newest_old old (e ∷ es) i h =
    newest_old (e ∷ old) es i (omega arith)
    ∙ cons_at e old (i - length es) (omega arith)
    ∙ ap (λ (k : ℕ). get_or old k no_entry) (omega arith)

newest_new : (old es : List Entry) (i : ℕ) → i < length es → get_or (newest old es) i no_entry ≡ get_or es (length es - 1 - i) no_entry
newest_new old [] i h = absurd (omega arith)
newest_new old (e ∷ es) i h =
    by_test (leb (length es) i)
    (λ t. let k : length es ≤ i = leb-true (length es) i t in
    newest_old (e ∷ old) es i k ∙ ap (λ (j : ℕ). get_or (e ∷ old) j no_entry) (none k) ∙ ap (λ (j : ℕ). get_or (e ∷ es) j no_entry) (sym (none_too k)))
    (λ t. let k : i < length es = leb-false (length es) i t in
    newest_new (e ∷ old) es i k
    ∙ ap (λ (j : ℕ). get_or es j no_entry) (less k)
    ∙ sym (cons_at e es (length (e ∷ es) - 1 - i) (some k)))
  where
    none : length es ≤ i → i - length es ≡ 0
    none k = omega arith

    none_too : length es ≤ i → length (e ∷ es) - 1 - i ≡ 0
    none_too k = omega arith

    less : i < length es → length es - 1 - i ≡ length (e ∷ es) - 1 - i - 1
    less k = omega arith

    some : i < length es → 1 ≤ length (e ∷ es) - 1 - i
    some k = omega arith

-- ---- what stands at a place once n samples are remembered

module _ (old : List Entry) (pvs us : List ℤ) (n i : ℕ) (e : n ≡ min (length pvs) (length us)) where
  abbrev all : List Entry
  all = newest old (entries_of pvs us)

  pub place_new : i < n → entry_of (Sample (get_or pvs (n - 1 - i) (pos 0))) (get_or us (n - 1 - i) (pos 0)) ≡ get_or all i no_entry
  place_new h =
      let long : length (entries_of pvs us) ≡ n = entries_length pvs us ∙ sym e in
      sym (entries_at pvs us (n - 1 - i) (omega arith) (omega arith))
      ∙ ap (λ (k : ℕ). get_or (entries_of pvs us) (k - 1 - i) no_entry) (sym long)
      ∙ sym (newest_new old (entries_of pvs us) i (omega (arith, long)))

  pub place_old : n ≤ i → get_or old (i - n) no_entry ≡ get_or all i no_entry
  place_old h =
      let long : length (entries_of pvs us) ≡ n = entries_length pvs us ∙ sym e in
      ap (λ (k : ℕ). get_or old (i - k) no_entry) (sym long) ∙ sym (newest_old old (entries_of pvs us) i (omega (arith, long)))

pub places_enough : (old es : List Entry) (n : ℕ) → length old ≡ n → n ≤ length (newest old es)
places_enough old es n e = rw (newest_length old es) (omega arith)

-- ---- one by one

-- the places after these are remembered one after the other
abbrev pub one_by_one : ℕ → List Entry → List Entry → List Entry
one_by_one n old [] = old
one_by_one n old (e ∷ es) = one_by_one n (take n (e ∷ old)) es

front_only : (n : ℕ) (old es : List Entry) → take n (newest (take n old) es) ≡ take n (newest old es)
front_only n old [] = take-take n n old (omega arith)
front_only n old (e ∷ es) =
    sym (front_only n (e ∷ take n old) es)
    ∙ ap (λ (xs : List Entry). take n (newest xs es)) (head n)
    ∙ front_only n (e ∷ old) es
  where
    head : (m : ℕ) → take m (e ∷ take m old) ≡ take m (e ∷ old)
    head zero = refl
    head (suc m) = ap (λ (xs : List Entry). e ∷ xs) (take-take m (suc m) old (omega arith))

pub at_once : (n : ℕ) (old es : List Entry) → take n old ≡ old → one_by_one n old es ≡ take n (newest old es)
at_once n old [] h = sym h
at_once n old (e ∷ es) h = at_once n (take n (e ∷ old)) es (take-take n n (e ∷ old) (omega arith)) ∙ front_only n (e ∷ old) es
