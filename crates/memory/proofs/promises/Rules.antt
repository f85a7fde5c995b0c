-- 02, request 6, "State rules", place by place: what `memory_ok` asks of a memory, and nothing more.
use Prim.Native.Nat.{ℕ, zero, suc, ◌-◌, ◌<◌, ◌≤◌}
use mathlib.Core.Path.{◌≡◌, refl, sym, ap, subst, ◌∙◌}
use mathlib.Core.Bool.{Bool, true, false}
use mathlib.Core.List.{List, [], ◌∷◌}
use native.Mathlib.Omega.{arith}
use borrow.Author.Tests.{eq-eqb, lt-ltb, le-ltb, ltb-true, ltb-false}
use lib.Dec.{ltb}
use lib.IntN.{ℤ, pos}
use lib.ListN.{length, get_or}
use Rattle.whole.specs.Numbers.{inside}
use Rattle.whole.proofs.Truth.{never, and, both, by_test}
use Rattle.whole.proofs.Parts.{eq_z_yes}
use Rattle.std.specs.declared.option.Option.{Option}
use Rattle.std.specs.declared.option.Option.TheVariants.{None, Some}
use Rattle.command.specs.declared.Command.{Command}
use Rattle.memory.specs.declared.Entry.{Entry}
use Rattle.memory.specs.declared.Memory.{Memory}
use Rattle.memory.specs.Memory.{window, no_entry, holds_ok, entry_ok, entries_ok, memory_ok}
use Rattle.memory.proofs.Rules.{places_long, places_ok_lem}

-- an entry that is held: it has a command, and its output lies in lo..hi
pub record Holds (lo hi : ℤ) (e : Entry) : Type 0 where
  pub command : Command
  pub has : e.command ≡ Some command
  pub output : inside lo hi e.output ≡ true

-- what stands at place i, which has the last number less i
abbrev pub at : Memory → ℕ → Entry
at m i = get_or m.entries i no_entry

module _ (lo hi : ℤ) (m : Memory) where
  -- "it holds as many entries as the smaller of 32 and the last number, their numbers run up to the last, their outputs lie in lo..hi,
  -- and unused places are blank"
  pub record StateRules : Type 0 where
    pub places : length m.entries ≡ window
    pub used : (i : ℕ) → i < window → i < m.number → Holds lo hi (at m i)
    pub unused : (i : ℕ) → i < window → m.number ≤ i → at m i ≡ no_entry

-- ---- the list by its places

earlier : (i n : ℕ) → ltb i (n - 1) ≡ ltb (suc i) n
earlier i n =
    by_test (ltb (suc i) n)
    (λ e. let h : suc i < n = ltb-true (suc i) n e in lt-ltb i (n - 1) (omega arith) ∙ sym e)
    (λ e. let h : n ≤ suc i = ltb-false (suc i) n e in le-ltb i (n - 1) (omega arith) ∙ sym e)

module _ (lo hi : ℤ) where
  ok_at : (n : ℕ) (es : List Entry) (i : ℕ) → entries_ok n lo hi es ≡ true → i < length es → entry_ok (ltb i n) lo hi (get_or es i no_entry) ≡ true
  ok_at n [] i e h = absurd (omega arith)
  ok_at n (x ∷ es) zero e h = (both (entry_ok (ltb 0 n) lo hi x) (entries_ok (n - 1) lo hi es) e).0
  ok_at n (x ∷ es) (suc i) e h =
      subst (λ (b : Bool). entry_ok b lo hi (get_or es i no_entry) ≡ true) (earlier i n)
      (ok_at (n - 1) es i (both (entry_ok (ltb 0 n) lo hi x) (entries_ok (n - 1) lo hi es) e).1 (omega arith))

  ok_all : (n : ℕ) (es : List Entry) → ((i : ℕ) → i < length es → entry_ok (ltb i n) lo hi (get_or es i no_entry) ≡ true) → entries_ok n lo hi es ≡ true
  ok_all n [] f = refl
  ok_all n (x ∷ es) f =
      and (f 0 (omega arith))
      (ok_all (n - 1) es (λ i h. subst (λ (b : Bool). entry_ok b lo hi (get_or es i no_entry) ≡ true) (sym (earlier i n)) (f (suc i) (omega (arith, h)))))

  -- ---- one entry

  used_only : (l : Option Command) (u : ℤ) → holds_ok true lo hi l u ≡ true → Holds lo hi (record { command = l; output = u })
  used_only None u h = never h
  used_only (Some c) u h = record { command = c; has = refl; output = h }

  unused_only : (l : Option Command) (u : ℤ) → holds_ok false lo hi l u ≡ true → record { command = l; output = u } ≡ no_entry
  unused_only None u h = ap (λ (x : ℤ). record { command = None; output = x }) (eq_z_yes u (pos 0) h)
  unused_only (Some c) u h = never h

  used_when : (e : Entry) → Holds lo hi e → entry_ok true lo hi e ≡ true
  used_when e h = rw h.has h.output

  unused_when : (e : Entry) → e ≡ no_entry → entry_ok false lo hi e ≡ true
  unused_when e h = rw h

-- ---- the rules are these

module _ (lo hi : ℤ) (m : Memory) where
  pub rules_only : memory_ok lo hi m ≡ true → StateRules lo hi m
  rules_only ok =
      let long = places_long lo hi m ok in
      let there : (i : ℕ) → i < window → i < length m.entries = λ i h. omega (arith, h, long) in
      let fits : (i : ℕ) → i < window → entry_ok (ltb i m.number) lo hi (at m i) ≡ true = λ i h. ok_at lo hi m.number m.entries i (places_ok_lem lo hi m ok) (there i h) in
      record {
        places = long;
        used = λ i h k. used_only lo hi _ _ (subst (λ (b : Bool). entry_ok b lo hi (at m i) ≡ true) (lt-ltb i m.number k) (fits i h));
        unused = λ i h k. unused_only lo hi _ _ (subst (λ (b : Bool). entry_ok b lo hi (at m i) ≡ true) (le-ltb i m.number k) (fits i h));
      }

  pub rules_when : StateRules lo hi m → memory_ok lo hi m ≡ true
  unfolding memory_ok
  rules_when r = and (eq-eqb (length m.entries) window r.places) (ok_all lo hi m.number m.entries fits) where
    fits : (i : ℕ) → i < length m.entries → entry_ok (ltb i m.number) lo hi (at m i) ≡ true
    fits i h =
        let long = r.places in
        let k : i < window = omega (arith, long) in
        by_test (ltb i m.number)
        (λ e. rw e (used_when lo hi (at m i) (r.used i k (ltb-true i m.number e))))
        (λ e. rw e (unused_when lo hi (at m i) (r.unused i k (ltb-false i m.number e))))
