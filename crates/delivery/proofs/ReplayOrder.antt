-- 01's order of a replay's refusals, case by case, and what a replay answers and writes.
use Prim.Native.Nat.{ℕ, ◌+◌, ◌<◌, ◌≤◌}
use mathlib.Core.Path.{◌≡◌, refl, sym, ap, ◌∙◌}
use mathlib.Core.Bool.{Bool, true, false, cond, ◌||◌, or-true}
use mathlib.Core.List.{List}
use native.Mathlib.Omega.{arith}
use borrow.Author.Tests.{eqb-true, eqb-false, ne_eqb, lt-ltb, le-ltb, le-leb, lt-leb, ltb-false, leb-false}
use lib.Dec.{eqb, ltb, leb}
use lib.IntN.{ℤ}
use lib.ListN.{length}
use Rattle.whole.proofs.Truth.{never, by_test, cond_no, zero_if, zero_else}
use Rattle.temperature.specs.Temperature.{first_bad, first_code}
use Rattle.window.specs.Means.{front_filled}
use Rattle.record.specs.Record.{guard_of, valid}
use Rattle.pid.specs.Play.{has_place, placed, play_refusal}
use Rattle.memory.proofs.Order.{neither}
use Rattle.delivery.specs.declared.numbered.Numbered.{Numbered}
use Rattle.delivery.specs.Numbered.{memory_ok, valid_of}
use Rattle.delivery.specs.Replay.{Replayed, numbers_left, replay_refusal, numbers_refusal, admission, delivered_outputs, done_of, refused_of, replayed_of, written_of}

-- ---- what the numbers and the places alone decide

module _ (s : Numbered) (first count room : ℕ) where
  abbrev numbers : ℕ
  numbers = numbers_refusal s first count room

  pub numbers_1 : first ≤ s.memory.number → numbers ≡ 1
  unfolding numbers_refusal
  numbers_1 a = rw (le-leb first s.memory.number a, or-true (eqb first 0))

  module _ (above : s.memory.number < first) where
    not_old : (eqb first 0 || leb first s.memory.number) ≡ false
    not_old = rw (ne_eqb first 0 (λ z. omega (arith, z)), lt-leb first s.memory.number above)

    pub numbers_3 : s.memory.number + 1 < first → numbers ≡ 3
    unfolding numbers_refusal
    numbers_3 a = rw (not_old, lt-ltb (s.memory.number + 1) first a)

    module _ (next : first ≤ s.memory.number + 1) where
      pub numbers_12 : room < count → numbers ≡ 12
      unfolding numbers_refusal
      numbers_12 a = rw (not_old, le-ltb (s.memory.number + 1) first next, lt-ltb room count a)

      module _ (long : count ≤ room) where
        pub numbers_13 : numbers_left s < count → numbers ≡ 13
        unfolding numbers_refusal
        numbers_13 a = rw (not_old, le-ltb (s.memory.number + 1) first next, le-ltb room count long, lt-ltb (numbers_left s) count a)

        pub numbers_0 : count ≤ numbers_left s → numbers ≡ 0
        unfolding numbers_refusal
        numbers_0 a = rw (not_old, le-ltb (s.memory.number + 1) first next, le-ltb room count long, le-ltb (numbers_left s) count a)

  -- where they refuse nothing
  pub record Fits : Type 0 where
    pub next : first ≡ s.memory.number + 1
    pub long : count ≤ room
    pub numbers : count ≤ numbers_left s

  pub fits_of : numbers ≡ 0 → Fits
  unfolding numbers_refusal
  fits_of e =
      let o = zero_else (eqb first 0 || leb first s.memory.number) 0 _ e in
      let g = zero_else (ltb (s.memory.number + 1) first) 2 _ o.1 in
      let r = zero_else (ltb room count) 11 _ g.1 in
      let n = zero_else (ltb (numbers_left s) count) 12 _ r.1 in
      let above = leb-false first s.memory.number (neither (eqb first 0) (leb first s.memory.number) o.0).1 in
      let below = ltb-false (s.memory.number + 1) first g.0 in
      record { next = omega arith; long = ltb-false room count r.0; numbers = ltb-false (numbers_left s) count n.0 }

  -- no sample's place stands beside such a code
  no_place : has_place numbers ≡ false
  unfolding numbers_refusal
  no_place = places (eqb first 0 || leb first s.memory.number) (ltb (s.memory.number + 1) first) (ltb room count) (ltb (numbers_left s) count) where
    places : (a b c d : Bool) → has_place (cond {A = ℕ} a 1 (cond b 3 (cond c 12 (cond d 13 0)))) ≡ false
    places true b c d = refl
    places false true c d = refl
    places false false true d = refl
    places false false false true = refl
    places false false false false = refl

  -- what `admit` tells: that nothing is refused so far, or what is
  pub admitted : admission s first count room ≡ 0 → (memory_ok s ≡ true) × Fits
  unfolding admission
  admitted e =
      let m = zero_if (memory_ok s) _ 9 e in
      by_test (eqb numbers 0)
      (λ z. (m.0, fits_of (eqb-true numbers 0 z)))
      (λ z. let r = zero_if (valid s.state) numbers 9 (sym (cond_no _ _ z) ∙ m.1) in absurd (eqb-false numbers 0 z r.1))

-- ---- the whole order

module _ (s : Numbered) (first : ℕ) (pvs : List ℤ) (room : ℕ) where
  abbrev numbers_of : ℕ
  numbers_of = numbers_refusal s first (length pvs) room

  by_numbers : replay_refusal s first pvs room
      ≡ cond {A = ℕ} (valid_of s) (cond (eqb numbers_of 0) (first_code (guard_of s.state) pvs) numbers_of) 10
  unfolding replay_refusal numbers_refusal
  by_numbers =
      ap (λ (n : ℕ). cond {A = ℕ} (valid_of s) n 10)
      (steps (eqb first 0 || leb first s.memory.number) (ltb (s.memory.number + 1) first) (ltb room (length pvs)) (ltb (numbers_left s) (length pvs)))
    where
      steps : (a b c d : Bool) → let k = first_code (guard_of s.state) pvs in
          let n = cond {A = ℕ} a 1 (cond b 3 (cond c 12 (cond d 13 0))) in
          cond a 1 (cond b 3 (cond c 12 (cond d 13 k))) ≡ cond (eqb n 0) k n
      steps true b c d = refl
      steps false true c d = refl
      steps false false true d = refl
      steps false false false true = refl
      steps false false false false = refl

  pub code_1 : valid_of s ≡ true → first ≤ s.memory.number → replay_refusal s first pvs room ≡ 1
  code_1 v a = by_numbers ∙ rw (v, numbers_1 s first (length pvs) room a)

  -- where the numbers and the places are there, what is left to refuse is the law's
  pub as_played : memory_ok s ≡ true → numbers_of ≡ 0 → length pvs ≤ room → replay_refusal s first pvs room ≡ play_refusal s.state pvs room
  unfolding play_refusal
  as_played m e long = by_numbers ∙ rw (m, e, le-ltb room (length pvs) long)

  pub refused_at : (admission s first (length pvs) room ≡ 0 → ⊥) →
      (replay_refusal s first pvs room ≡ admission s first (length pvs) room) × (has_place (admission s first (length pvs) room) ≡ false)
  unfolding admission
  refused_at z =
      by_test (memory_ok s)
      (λ m. by_test (eqb numbers_of 0)
      (λ e. absurd (z (rw (m, e))))
      (λ e. by_test (valid s.state) (λ v. (by_numbers ∙ rw (m, v, e), rw (m, v, e) (no_place s first (length pvs) room))) (λ v. (by_numbers ∙ rw (m, v, e), rw (m, v, e)))))
      (λ m. (by_numbers ∙ rw m, rw m))

-- what an accepted replay has: 01's conditions, every one of them
pub record Accepted (s : Numbered) (first : ℕ) (pvs : List ℤ) (room : ℕ) : Type 0 where
  pub rules : valid_of s ≡ true
  pub next : first ≡ s.memory.number + 1
  pub long : length pvs ≤ room
  pub numbers : length pvs ≤ numbers_left s
  pub good : first_code (guard_of s.state) pvs ≡ 0

pub accepted_of : (s : Numbered) (first : ℕ) (pvs : List ℤ) (room : ℕ) → replay_refusal s first pvs room ≡ 0 → Accepted s first pvs room
unfolding replay_refusal
accepted_of s first pvs room e =
    let v = zero_if (valid_of s) _ 9 e in
    let o = zero_else (eqb first 0 || leb first s.memory.number) 0 _ v.1 in
    let g = zero_else (ltb (s.memory.number + 1) first) 2 _ o.1 in
    let r = zero_else (ltb room (length pvs)) 11 _ g.1 in
    let n = zero_else (ltb (numbers_left s) (length pvs)) 12 _ r.1 in
    let above = leb-false first s.memory.number (neither (eqb first 0) (leb first s.memory.number) o.0).1 in
    let below = ltb-false (s.memory.number + 1) first g.0 in
    record {
      rules = v.0;
      next = omega arith;
      long = ltb-false room (length pvs) r.0;
      numbers = ltb-false (numbers_left s) (length pvs) n.0;
      good = n.1;
    }

pub accepted_when : (s : Numbered) (first : ℕ) (pvs : List ℤ) (room : ℕ) → Accepted s first pvs room → replay_refusal s first pvs room ≡ 0
unfolding replay_refusal
accepted_when s first pvs room a =
    let e = a.next in
    rw (
      a.rules,
      not_old s first (length pvs) room (omega arith),
      le-ltb (s.memory.number + 1) first (omega arith),
      le-ltb room (length pvs) a.long,
      le-ltb (numbers_left s) (length pvs) a.numbers,
      a.good,
    )

-- a replay that is refused for one of its samples has all else
module _ (s : Numbered) (first : ℕ) (pvs : List ℤ) (room : ℕ) where
  pub record BadSample : Type 0 where
    pub rules : valid_of s ≡ true
    pub next : first ≡ s.memory.number + 1
    pub code : first_code (guard_of s.state) pvs ≡ replay_refusal s first pvs room

  pub bad_sample : has_place (replay_refusal s first pvs room) ≡ true → BadSample
  unfolding replay_refusal
  bad_sample p =
      let v = if_not (valid_of s) _ 10 p refl in
      let o = else_not (eqb first 0 || leb first s.memory.number) 1 _ v.1 refl in
      let g = else_not (ltb (s.memory.number + 1) first) 3 _ o.1 refl in
      let r = else_not (ltb room (length pvs)) 12 _ g.1 refl in
      let n = else_not (ltb (numbers_left s) (length pvs)) 13 _ r.1 refl in
      let above = leb-false first s.memory.number (neither (eqb first 0) (leb first s.memory.number) o.0).1 in
      let below = ltb-false (s.memory.number + 1) first g.0 in
      record { rules = v.0; next = omega arith; code = rw (v.0, o.0, g.0, r.0, n.0) }
    where
      if_not : (b : Bool) (m k : ℕ) → has_place (cond b m k) ≡ true → has_place k ≡ false → (b ≡ true) × (has_place m ≡ true)
      if_not true m k e f = (refl, e)
      if_not false m k e f = never (sym f ∙ e)

      else_not : (b : Bool) (k m : ℕ) → has_place (cond b k m) ≡ true → has_place k ≡ false → (b ≡ false) × (has_place m ≡ true)
      else_not true k m e f = never (sym f ∙ e)
      else_not false k m e f = (refl, e)

-- ---- what is answered and what is written

module _ (s : Numbered) (first : ℕ) (pvs out : List ℤ) where
  abbrev pub Replays : Replayed → List ℤ → Type 0
  Replays r written = (r ≡ replayed_of s first pvs (length out)) × (written ≡ written_of s first pvs out)

  pub refuses : (code : ℕ) → replay_refusal s first pvs (length out) ≡ code → (code ≡ 0 → ⊥) →
      Replays (refused_of s code (placed code (first_bad (guard_of s.state) pvs))) out
  unfolding replayed_of written_of
  refuses code e z = (rw (e, ne_eqb code 0 z), rw (e, ne_eqb code 0 z))

  pub done : replay_refusal s first pvs (length out) ≡ 0 → Replays (done_of s first pvs) (front_filled (delivered_outputs s first pvs) out)
  unfolding replayed_of written_of
  done e = (rw e, rw e)

  pub broken : memory_ok s ≡ false → Replays (refused_of s 10 0) out
  broken m = refuses 10 (by_numbers s first pvs (length out) ∙ rw m) (λ z. omega (arith, z))

  -- a refusal that comes after 10
  abbrev stopped : ℕ → Replayed
  stopped code = cond (valid s.state) (refused_of s code 0) (refused_of s 10 0)

  module _ (m : memory_ok s ≡ true) where
    stops_at : (code : ℕ) → (code ≡ 0 → ⊥) → has_place code ≡ false → numbers_refusal s first (length pvs) (length out) ≡ code → Replays (stopped code) out
    stops_at code z q e =
        by_test (valid s.state)
        (λ v. rw v (rw q at (refuses code (by_numbers s first pvs (length out) ∙ rw (m, v, e, ne_eqb code 0 z)) z)))
        (λ v. rw v (refuses 10 (by_numbers s first pvs (length out) ∙ rw (m, v)) (λ x. omega (arith, x))))

    pub stops_1 : first ≤ s.memory.number → Replays (stopped 1) out
    stops_1 h = stops_at 1 (λ z. omega (arith, z)) refl (numbers_1 s first (length pvs) (length out) h)

    module _ (above : s.memory.number < first) where
      pub stops_3 : s.memory.number + 1 < first → Replays (stopped 3) out
      stops_3 h = stops_at 3 (λ z. omega (arith, z)) refl (numbers_3 s first (length pvs) (length out) above h)

      module _ (next : first ≤ s.memory.number + 1) where
        pub stops_12 : length out < length pvs → Replays (stopped 12) out
        stops_12 h = stops_at 12 (λ z. omega (arith, z)) refl (numbers_12 s first (length pvs) (length out) above next h)

        pub stops_13 : length pvs ≤ length out → numbers_left s < length pvs → Replays (stopped 13) out
        stops_13 room h = stops_at 13 (λ z. omega (arith, z)) refl (numbers_13 s first (length pvs) (length out) above next room h)

  pub stops : (admission s first (length pvs) (length out) ≡ 0 → ⊥) → Replays (refused_of s (admission s first (length pvs) (length out)) 0) out
  stops z =
      let r = refused_at s first pvs (length out) z in
      rw r.1 at (refuses (admission s first (length pvs) (length out)) r.0 z)

  pub by_code : (P : Replayed → List ℤ → Type 0) →
      (Accepted s first pvs (length out) → P (done_of s first pvs) (front_filled (delivered_outputs s first pvs) out)) →
      ((code place : ℕ) → (code ≡ 0 → ⊥) → P (refused_of s code place) out) →
      P (replayed_of s first pvs (length out)) (written_of s first pvs out)
  unfolding replayed_of written_of
  by_code P f g =
      by_test (eqb (replay_refusal s first pvs (length out)) 0)
      (λ e. rw e (f (accepted_of s first pvs (length out) (eqb-true _ 0 e))))
      (λ e. rw e (g _ _ (eqb-false (replay_refusal s first pvs (length out)) 0 e)))
