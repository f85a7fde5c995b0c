-- One delivery, case by case.
use Prim.Native.Nat.{ℕ, ◌+◌, ◌≤◌}
use mathlib.Core.Path.{◌≡◌, sym, ap, subst, ◌∙◌}
use mathlib.Core.Bool.{true, false, cond}
use native.Mathlib.Omega.{arith}
use borrow.Author.Tests.{eq-eqb, ne_eqb, eqb-true, eqb-false}
use lib.Dec.{eqb}
use Rattle.whole.proofs.Truth.{never, and, both, by_test, chosen, cond_yes, cond_no}
use Rattle.settings.specs.declared.Settings.{Settings}
use Rattle.command.specs.declared.Command.{Command}
use Rattle.record.specs.Record.{valid}
use Rattle.record.specs.Refusals.{refusal_of}
use Rattle.record.proofs.Rules.{holds_of}
use Rattle.record.proofs.Refused.{never_ten}
use Rattle.pid.specs.Law.{Obeyed, step_of, law_of}
use Rattle.pid.proofs.Kept.{step_valid}
use Rattle.pid.proofs.Obeys.{obeys, refuses, breaks, settings_stay}
use Rattle.command.proofs.Same.{same_self}
use Rattle.memory.specs.declared.Found.{Found}
use Rattle.memory.specs.declared.Found.TheVariants.{Old, Reused, Repeated, Ahead, Next}
use Rattle.memory.specs.declared.Entry.{Entry}
use Rattle.memory.specs.Memory.{window, memory_ok as memory_rules, is_last, entry_at, found_in, found_of, remembered}
use Rattle.memory.proofs.Order.{InWindow, Means, means, number_zero, number_old, number_within, number_next, newest_first, repeated}
use Rattle.memory.proofs.Rules.{remembered_ok}
use Rattle.delivery.specs.declared.numbered.Numbered.{Numbered}
use Rattle.delivery.specs.Numbered.{Delivered, memory_ok, valid_of, answer_of, broken_of, refused_as, repeat_of, kept_of, served_of, delivered_of, tried_of}

-- ---- the ways of `deliver`

-- what is made of the law's answer
abbrev pub made_by : Numbered → ℕ → Command → Obeyed → Delivered
made_by s n c o =
    cond (eqb o.code 0) (answer_of 0 (kept_of s o.state n c)) (refused_as o.code s)

module _ (s : Numbered) (n : ℕ) (c : Command) where
  made : made_by s n c (law_of s.state c) ≡ tried_of s n c
  unfolding tried_of
  made =
      by_test (valid s.state)
      (λ v. by_test (eqb (refusal_of s.state c) 0)
      (λ z. rw (obeys s.state c v (eqb-true _ 0 z), v, z))
      (λ z. rw (refuses s.state c v (eqb-false _ 0 z), v, z, ne_eqb (refusal_of s.state c) 10 (never_ten s.state c))))
      (λ v. rw (breaks s.state c v, v))

  pub tried : (o : Obeyed) → o ≡ law_of s.state c → made_by s n c o ≡ tried_of s n c
  tried o e = ap (made_by s n c) e ∙ made

  pub tried_kept : (o : Obeyed) → o ≡ law_of s.state c → o.code ≡ 0 → answer_of 0 (kept_of s o.state n c) ≡ tried_of s n c
  tried_kept o e z = rw z at (tried o e)

  pub tried_refused : (o : Obeyed) → o ≡ law_of s.state c → (o.code ≡ 0 → ⊥) → refused_as o.code s ≡ tried_of s n c
  tried_refused o e h = rw (ne_eqb o.code 0 h) at (tried o e)

  pub broken_memory : memory_ok s ≡ false → broken_of s ≡ delivered_of s n c
  unfolding delivered_of
  broken_memory m = rw m

  pub by_number : memory_ok s ≡ true → (f : Found) → found_of s.memory n c ≡ f →
      cond (valid s.state) (served_of s n c f) (broken_of s) ≡ delivered_of s n c
  unfolding delivered_of
  by_number m f e = rw (m, e)

-- ---- any delivery, by what becomes of it

module _ (P : Delivered → Type 0) (s : Numbered) (n : ℕ) (c : Command) where
  served_by : (f : Found) → Means s.memory n c f →
      ((code : ℕ) → (code ≡ 0 → ⊥) → P (answer_of code s)) →
      ((e : Entry) → InWindow n s.memory.number → e ≡ entry_at s.memory n → is_last e.command c ≡ true → P (repeat_of n e s)) →
      (n ≡ s.memory.number + 1 → refusal_of s.state c ≡ 0 → P (answer_of 0 (kept_of s (step_of s.state c) n c))) →
      P (served_of s n c f)
  unfolding served_of
  served_by Old m f g h = f 1 (λ z. omega (arith, z))
  served_by Reused m f g h = f 2 (λ z. omega (arith, z))
  served_by (Repeated e) m f g h = g e m.0 m.1 m.2
  served_by Ahead m f g h = f 3 (λ z. omega (arith, z))
  served_by Next m f g h =
      chosen P (eqb (refusal_of s.state c) 0) (λ e. h m (eqb-true _ 0 e)) (λ e. f (refusal_of s.state c) (eqb-false _ 0 e))

  pub by_delivery_lem : (valid_of s ≡ false → P (broken_of s)) →
      (valid_of s ≡ true → (code : ℕ) → (code ≡ 0 → ⊥) → P (answer_of code s)) →
      (valid_of s ≡ true → (e : Entry) → InWindow n s.memory.number → e ≡ entry_at s.memory n → is_last e.command c ≡ true → P (repeat_of n e s)) →
      (valid_of s ≡ true → n ≡ s.memory.number + 1 → refusal_of s.state c ≡ 0 → P (answer_of 0 (kept_of s (step_of s.state c) n c))) →
      P (delivered_of s n c)
  unfolding delivered_of
  by_delivery_lem broken f g h =
      chosen P (valid_of s)
      (λ v. served_by (found_of s.memory n c) (means s.memory n c) (f v) (g v) (h v))
      broken

-- ---- a kept delivery, and the same again

module _ (s : Numbered) (n : ℕ) (c : Command) (v : valid_of s ≡ true) where
  served_as : (f : Found) → found_of s.memory n c ≡ f → delivered_of s n c ≡ served_of s n c f
  unfolding delivered_of
  served_as f e = cond_yes _ _ v ∙ ap (served_of s n c) e

  pub kept_one : n ≡ s.memory.number + 1 → refusal_of s.state c ≡ 0 → delivered_of s n c ≡ answer_of 0 (kept_of s (step_of s.state c) n c)
  unfolding served_of
  kept_one e z = served_as Next (number_next n s.memory.number _ (omega arith) e) ∙ cond_yes _ _ (eq-eqb (refusal_of s.state c) 0 z)

  pub refused_one : n ≡ s.memory.number + 1 → (refusal_of s.state c ≡ 0 → ⊥) → delivered_of s n c ≡ answer_of (refusal_of s.state c) s
  unfolding served_of
  refused_one e z = served_as Next (number_next n s.memory.number _ (omega arith) e) ∙ cond_no _ _ (ne_eqb (refusal_of s.state c) 0 z)

  pub zero_one : n ≡ 0 → delivered_of s n c ≡ answer_of 1 s
  unfolding served_of
  zero_one e = served_as Old (number_zero n s.memory.number _ e)

  pub old_one : n + window ≤ s.memory.number → delivered_of s n c ≡ answer_of 1 s
  unfolding served_of
  old_one h = served_as Old (number_old n s.memory.number _ h)

  pub repeat_one : InWindow n s.memory.number → is_last (entry_at s.memory n).command c ≡ true → delivered_of s n c ≡ repeat_of n (entry_at s.memory n) s
  unfolding served_of
  repeat_one i t = served_as (Repeated (entry_at s.memory n)) (repeated s.memory n c i t)

  pub reused_one : InWindow n s.memory.number → is_last (entry_at s.memory n).command c ≡ false → delivered_of s n c ≡ answer_of 2 s
  unfolding served_of found_in
  reused_one i t = served_as Reused (number_within n s.memory.number (found_in (entry_at s.memory n) c) i ∙ rw t)

  pub kept_valid : n ≡ s.memory.number + 1 → refusal_of s.state c ≡ 0 → valid_of (kept_of s (step_of s.state c) n c) ≡ true
  kept_valid e z =
      let l = step_of s.state c in
      let b = both (memory_ok s) (valid s.state) v in
      let w = step_valid s.state c b.1 z in
      let m = subst (λ (t : Settings). memory_rules t.lo t.hi s.memory ≡ true) (sym (settings_stay s.state c)) b.0 in
      and (remembered_ok l.settings.lo l.settings.hi s.memory m n c l.u e (holds_of l w).u) w

pub delivered_valid : (s : Numbered) (n : ℕ) (c : Command) → valid_of s ≡ true → valid_of (delivered_of s n c).state ≡ true
delivered_valid s n c v =
    by_delivery_lem (λ (r : Delivered). valid_of r.state ≡ true) s n c
    (λ b. never (sym b ∙ v)) (λ _ _ _. v) (λ _ _ _ _ _. v) (λ _ e z. kept_valid s n c v e z)

pub kept_twice : (s : Numbered) (n : ℕ) (c : Command) → valid_of s ≡ true → n ≡ s.memory.number + 1 → refusal_of s.state c ≡ 0 →
    delivered_of (delivered_of s n c).state n c ≡ delivered_of s n c
unfolding window remembered is_last
kept_twice s n c v e z =
    let k = kept_one s n c v e z in
    let t = kept_of s (step_of s.state c) n c in
    let f = newest_first s.memory n c (step_of s.state c).u in
    ap (λ (r : Delivered). delivered_of r.state n c) k
    ∙ repeat_one t n c (kept_valid s n c v e z) (record { some = λ q. omega (arith, q); reached = omega arith; recent = omega arith }) (rw f (same_self c))
    ∙ ap (λ (x : Entry). repeat_of n x t) f
    ∙ sym k
