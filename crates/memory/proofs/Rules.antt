-- The memory's state rules: one place after the other, and kept by what is remembered.
use Prim.Native.Nat.{ℕ, zero, suc, ◌+◌, ◌-◌, ◌<◌, ◌≤◌}
use mathlib.Core.Path.{◌≡◌, refl, ap, ap₂, sym, ◌∙◌}
use mathlib.Core.Bool.{Bool, true, false, ◌&&◌}
use mathlib.Core.List.{List, [], ◌∷◌}
use native.Mathlib.Omega.{arith}
use borrow.Author.Tests.{eqb-true, eq-eqb, lt-ltb, le-ltb, ltb-true, ltb-false}
use lib.Dec.{eqb, ltb}
use lib.IntN.{ℤ}
use lib.ListN.{length, take, drop, get_or, replicate, drop_of_length-le}
use lib.Seq.{length-take-le, take_all}
use Rattle.std.specs.List.{list_all, enumerate_from}
use Rattle.whole.specs.Numbers.{inside}
use Rattle.whole.proofs.Truth.{and, both, by_test}
use Rattle.whole.proofs.Lists.{next}
use Rattle.command.specs.declared.Command.{Command}
use Rattle.memory.specs.declared.Entry.{Entry}
use Rattle.memory.specs.declared.Memory.{Memory}
use Rattle.memory.specs.Memory.{window, no_entry, no_memory, entry_ok, entries_ok, memory_ok, remembered}

-- ---- place by place

-- place i is used where the last number is above i
used : (n i : ℕ) → ltb 0 (n - i) ≡ ltb i n
used n i =
    by_test (ltb i n)
    (λ e. let h : i < n = ltb-true i n e in lt-ltb 0 (n - i) (omega arith) ∙ sym e)
    (λ e. let h : n ≤ i = ltb-false i n e in le-ltb 0 (n - i) (omega arith) ∙ sym e)

module _ (n : ℕ) (lo hi : ℤ) (es : List Entry) (i : ℕ) where
  -- the rules from place i on
  abbrev pub ok_from : ℕ → Bool
  ok_from j = entries_ok (n - j) lo hi (drop j es)

  ok_next : i < length es → ok_from i ≡ (entry_ok (ltb i n) lo hi (get_or es i no_entry) && ok_from (i + 1))
  ok_next h =
      rw (next es i no_entry h)
      (ap₂ (λ (b : Bool) (k : ℕ). entry_ok b lo hi (get_or es i no_entry) && entries_ok k lo hi (drop (i + 1) es)) (used n i) (omega arith))

  pub ok_on : i < length es → entry_ok (ltb i n) lo hi (get_or es i no_entry) ≡ true → ok_from i ≡ ok_from (i + 1)
  ok_on h e = ok_next h ∙ ap (λ (b : Bool). b && ok_from (i + 1)) e

  pub ok_not : i < length es → entry_ok (ltb i n) lo hi (get_or es i no_entry) ≡ false → ok_from i ≡ false
  ok_not h e = ok_next h ∙ ap (λ (b : Bool). b && ok_from (i + 1)) e

  pub ok_end : length es ≤ i → ok_from i ≡ true
  ok_end h = rw (drop_of_length-le es h)

-- the places from i on, each tested with its own number
pub all_ok : (n : ℕ) (lo hi : ℤ) (es : List Entry) (i : ℕ) →
    list_all (λ (p : ℕ × Entry). entry_ok (ltb p.0 n) lo hi p.1) (enumerate_from i es) ≡ entries_ok (n - i) lo hi es
all_ok n lo hi [] i = refl
all_ok n lo hi (e ∷ es) i =
    ap₂ (λ (b r : Bool). entry_ok b lo hi e && r) (sym (used n i)) (all_ok n lo hi es (i + 1) ∙ ap (λ (k : ℕ). entries_ok k lo hi es) (omega arith))

-- ---- kept

module _ (lo hi : ℤ) where
  blank_ok : (n : ℕ) → entries_ok 0 lo hi (replicate n no_entry) ≡ true
  blank_ok zero = refl
  blank_ok (suc n) = blank_ok n

  pub no_memory_ok : memory_ok lo hi no_memory ≡ true
  unfolding memory_ok window
  no_memory_ok = refl

  take_ok : (n k : ℕ) (es : List Entry) → entries_ok n lo hi es ≡ true → entries_ok n lo hi (take k es) ≡ true
  take_ok n zero es h = refl
  take_ok n (suc k) [] h = refl
  take_ok n (suc k) (e ∷ es) h =
      let b = both (entry_ok (ltb 0 n) lo hi e) (entries_ok (n - 1) lo hi es) h in
      and b.0 (take_ok (n - 1) k es b.1)

  module _ (m : Memory) (ok : memory_ok lo hi m ≡ true) where
    pub places_long : length m.entries ≡ window
    unfolding memory_ok
    places_long = eqb-true (length m.entries) window (both (eqb (length m.entries) window) (entries_ok m.number lo hi m.entries) ok).0

    pub places_ok_lem : entries_ok m.number lo hi m.entries ≡ true
    unfolding memory_ok
    places_ok_lem = (both (eqb (length m.entries) window) (entries_ok m.number lo hi m.entries) ok).1

    pub take_places : take window m.entries ≡ m.entries
    take_places = take_all window m.entries (omega (arith, places_long))

    pub remembered_ok : (n : ℕ) (c : Command) (u : ℤ) → n ≡ m.number + 1 → inside lo hi u ≡ true → memory_ok lo hi (remembered m n c u) ≡ true
    unfolding memory_ok remembered
    remembered_ok n c u e i =
        let long = places_long in
        let k : n - 1 ≡ m.number = omega (arith, e) in
        and (eq-eqb _ window (length-take-le window _ (omega arith)))
        (take_ok n window _ (rw (lt-ltb 0 n (omega arith), i, k) places_ok_lem))
