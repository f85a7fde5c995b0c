-- The order of the numbers, case by case, and what each case means.
use Prim.Native.Nat.{ℕ, zero, ◌+◌, ◌-◌, ◌<◌, ◌≤◌}
use mathlib.Core.Path.{◌≡◌, refl, sym, ap, ◌∙◌}
use mathlib.Core.Bool.{Bool, true, false, ◌||◌, or-true}
use native.Mathlib.Omega.{arith}
use borrow.Author.Tests.{eq-eqb, ne_eqb, lt-ltb, le-ltb, le-leb, lt-leb, eqb-false, ltb-false, leb-true, leb-false}
use lib.Dec.{eqb, ltb, leb}
use lib.IntN.{ℤ}
use Rattle.whole.proofs.Truth.{never, chosen}
use Rattle.std.specs.declared.option.Option.{Option}
use Rattle.std.specs.declared.option.Option.TheVariants.{None, Some}
use Rattle.command.specs.declared.Command.{Command}
use Rattle.command.proofs.Same.{same_equal, same_self}
use Rattle.memory.specs.declared.Memory.{Memory}
use Rattle.memory.specs.declared.Found.{Found}
use Rattle.memory.specs.declared.Found.TheVariants.{Old, Reused, Repeated, Ahead, Next}
use Rattle.memory.specs.Memory.{window, entry_of, is_last, found_in, found_by, entry_at, found_of, remembered}

-- a command is the one kept exactly where it is equal to it, values and all
pub last_is : (l : Option Command) (c : Command) → is_last l c ≡ true → l ≡ Some c
unfolding is_last
last_is None c e = never e
last_is (Some d) c e = ap Some (same_equal d c e)

pub is_last_lem : (l : Option Command) (c : Command) → l ≡ Some c → is_last l c ≡ true
unfolding is_last
is_last_lem l c e = rw e (same_self c)

pub neither : (a b : Bool) → (a || b) ≡ false → (a ≡ false) × (b ≡ false)
neither true b e = never (sym e)
neither false b e = (refl, e)

-- a number that one of the last 32 has
pub record InWindow (n last : ℕ) : Type 0 where
  pub some : n ≡ 0 → ⊥
  pub reached : n ≤ last
  pub recent : last < n + window

module _ (n last : ℕ) (f : Found) where
  pub number_zero : n ≡ 0 → found_by n last f ≡ Old
  unfolding found_by
  number_zero e = rw (eq-eqb n 0 e)

  pub number_old : n + window ≤ last → found_by n last f ≡ Old
  unfolding found_by
  number_old h = rw (le-leb (n + window) last h, or-true (eqb n 0))

  pub number_within : InWindow n last → found_by n last f ≡ f
  unfolding found_by
  number_within i = rw (ne_eqb n 0 i.some, lt-leb (n + window) last i.recent, le-leb n last i.reached)

  module _ (above : last < n) where
    not_old : (eqb n 0 || leb (n + window) last) ≡ false
    not_old = rw (ne_eqb n 0 (λ z. omega (arith, z)), lt-leb (n + window) last (omega arith))

    pub number_ahead : last + 1 < n → found_by n last f ≡ Ahead
    unfolding found_by
    number_ahead h = rw (not_old, lt-leb n last above, lt-ltb (last + 1) n h)

    pub number_next : n ≡ last + 1 → found_by n last f ≡ Next
    unfolding found_by
    number_next e = rw (not_old, lt-leb n last above, le-ltb (last + 1) n (omega arith))

-- what a repeat and the next number mean
module _ (m : Memory) (n : ℕ) (c : Command) where
  abbrev pub Means : Found → Type 0
  Means Old = zero ≡ zero
  Means Reused = zero ≡ zero
  Means (Repeated e) = InWindow n m.number × (e ≡ entry_at m n) × (is_last e.command c ≡ true)
  Means Ahead = zero ≡ zero
  Means Next = n ≡ m.number + 1

  within_means : InWindow n m.number → Means (found_in (entry_at m n) c)
  unfolding found_in
  within_means i = chosen Means (is_last (entry_at m n).command c) (λ e. (i, refl, e)) (λ _. refl)

  pub means : Means (found_of m n c)
  unfolding found_by
  means =
      chosen Means (eqb n 0 || leb (n + window) m.number) (λ _. refl)
      (λ z. let o = neither (eqb n 0) (leb (n + window) m.number) z in
      let b = leb-false (n + window) m.number o.1 in
      chosen Means (leb n m.number)
      (λ e. within_means (record { some = eqb-false n 0 o.0; reached = leb-true n m.number e; recent = b }))
      (λ e. let above = leb-false n m.number e in
      chosen Means (ltb (m.number + 1) n) (λ _. refl) (λ g. let h = ltb-false (m.number + 1) n g in omega arith)))

  -- what was remembered last stands first
  pub newest_first : (u : ℤ) → entry_at (remembered m n c u) n ≡ entry_of c u
  unfolding window remembered
  newest_first u = let z : n - n ≡ 0 = omega arith in rw z

  -- a repeat is found at its place
  pub repeated : InWindow n m.number → is_last (entry_at m n).command c ≡ true → found_of m n c ≡ Repeated (entry_at m n)
  unfolding found_in
  repeated i e = number_within n m.number (found_in (entry_at m n) c) i ∙ rw e
