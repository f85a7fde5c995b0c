-- DEMAND 1, of numbered delivery: "A refused call changes no loop [..]. From any record that passes 01's state rules, power
-- stays within the loop's limits and the integral within 01's bound." And what 01 says of numbers, from any such record.
use Prim.Native.Nat.{ℕ, ◌+◌}
use mathlib.Core.Path.{◌≡◌, refl, sym, ap, ap₂, ◌∙◌}
use mathlib.Core.Bool.{Bool, true, false, ◌&&◌}
use borrow.Author.Tests.{eqb-true, eq-eqb}
use lib.Dec.{eqb}
use lib.IntN.{pos}
use Rattle.whole.specs.Numbers.{inside}
use Rattle.whole.proofs.Truth.{never, both, and, by_test, cond_no}
use Rattle.settings.specs.declared.Settings.{Settings}
use Rattle.settings.specs.Table.{rows_of}
use Rattle.settings.specs.Settings.{in_table}
use Rattle.command.specs.declared.Command.{Command}
use Rattle.record.specs.Units.{fine}
use Rattle.record.specs.Record.{in_b, valid}
use Rattle.record.specs.Refusals.{refusal_of}
use Rattle.record.proofs.Rules.{holds_of}
use Rattle.record.proofs.promises.Made as loops
use Rattle.pid.specs.Law.{step_of}
use Rattle.window.specs.Window.{fresh_window, window_ok}
use Rattle.memory.specs.Memory.{window, memory_ok as memory_rules}
use Rattle.memory.proofs.Rules.{no_memory_ok}
use Rattle.delivery.specs.declared.numbered.Numbered.{Numbered}
use Rattle.delivery.specs.Numbered.{Delivered, new_of, made_of, blank_of, memory_ok, valid_of, answer_of, kept_of, delivered_of}
use Rattle.delivery.specs.Bench.{at_limit}
use Rattle.delivery.proofs.Served.{by_delivery_lem, kept_one, kept_twice, delivered_valid}

-- "Every loop the software makes keeps them"
pub made_valid : (s : Settings) → (made_of s).code ≡ 0 → valid_of (made_of s).state ≡ true
made_valid s e = and (no_memory_ok _ _) (loops.made_valid s e)

-- "The blank breaks the state rules (lo is not below hi)."
pub blank_broken : valid_of blank_of ≡ false
blank_broken = ap₂ (λ (a b : Bool). a && b) (no_memory_ok _ _) loops.blank_broken

-- the record that comes back keeps the state rules
pub again_valid : (s : Numbered) (n : ℕ) (c : Command) → valid_of s ≡ true → valid_of (delivered_of s n c).state ≡ true
again_valid = delivered_valid

-- the loop's own among them
loop_valid : (s : Numbered) → valid_of s ≡ true → valid s.state ≡ true
loop_valid s v = (both (memory_ok s) (valid s.state) v).1

-- power within lo..hi
pub power_within : (s : Numbered) (n : ℕ) (c : Command) → valid_of s ≡ true →
    inside (delivered_of s n c).state.state.settings.lo (delivered_of s n c).state.state.settings.hi (delivered_of s n c).state.state.u ≡ true
power_within s n c v = (holds_of (delivered_of s n c).state.state (loop_valid (delivered_of s n c).state (again_valid s n c v))).u

-- the integral within ±B
pub integral_within : (s : Numbered) (n : ℕ) (c : Command) → valid_of s ≡ true → in_b (delivered_of s n c).state.state.integral ≡ true
integral_within s n c v = (holds_of (delivered_of s n c).state.state (loop_valid (delivered_of s n c).state (again_valid s n c v))).integral

-- "Every refusal hands back the record that came in."
pub refused_back : (s : Numbered) (n : ℕ) (c : Command) → ((delivered_of s n c).code ≡ 0 → ⊥) → (delivered_of s n c).state ≡ s
refused_back s n c =
    by_delivery_lem (λ (r : Delivered). (r.code ≡ 0 → ⊥) → r.state ≡ s) s n c
    (λ _ _. refl) (λ _ _ _ _. refl) (λ _ _ _ _ _ _. refl) (λ _ _ _ f. absurd (f refl))

-- "A record breaking the state rules gets code 10, output 0 and number 0."
pub broken_ten : (s : Numbered) (n : ℕ) (c : Command) → valid_of s ≡ false →
    delivered_of s n c ≡ record { code = 10; output = pos 0; number = 0; state = s }
unfolding delivered_of
broken_ten s n c v = cond_no _ _ v

-- "Number = last + 1: the law is tried; accepted, the number and command are remembered"
pub kept_is_law : (s : Numbered) (n : ℕ) (c : Command) → valid_of s ≡ true → n ≡ s.memory.number + 1 → refusal_of s.state c ≡ 0 →
    delivered_of s n c ≡ answer_of 0 (kept_of s (step_of s.state c) n c)
kept_is_law = kept_one

-- every other delivery leaves the record that came in: a repeat, an old or reused number, a gap, content that the law refuses
pub other_leaves : (s : Numbered) (n : ℕ) (c : Command) → (n ≡ s.memory.number + 1 → refusal_of s.state c ≡ 0 → ⊥) → (delivered_of s n c).state ≡ s
other_leaves s n c f =
    by_delivery_lem (λ (r : Delivered). r.state ≡ s) s n c
    (λ _. refl) (λ _ _ _. refl) (λ _ _ _ _ _. refl) (λ _ e z. absurd (f e z))

-- "every command carries a number, and a second delivery of it must write nothing": whatever the first delivery did, the
-- second gets the same answer and leaves the same record
pub second_writes_nothing : (s : Numbered) (n : ℕ) (c : Command) → delivered_of (delivered_of s n c).state n c ≡ delivered_of s n c
second_writes_nothing s n c =
    by_test (valid_of s)
    (λ v. by_test (eqb n (s.memory.number + 1) && eqb (refusal_of s.state c) 0)
    (λ e. let b = both (eqb n (s.memory.number + 1)) (eqb (refusal_of s.state c) 0) e in
    kept_twice s n c v (eqb-true n (s.memory.number + 1) b.0) (eqb-true (refusal_of s.state c) 0 b.1))
    (λ e. ap (λ (x : Numbered). delivered_of x n c) (other_leaves s n c (λ p q. never (sym e ∙ and (eq-eqb n (s.memory.number + 1) p) (eq-eqb (refusal_of s.state c) 0 q))))))
    (λ v. ap (λ (r : Delivered). delivered_of r.state n c) (broken_ten s n c v))

-- a record that keeps the state rules and is never reached: automatic, with nothing kept
pub never_reached : valid_of (new_of (at_limit 0 (fine 900 0))) ≡ true
unfolding fresh_window window_ok valid in_table rows_of window memory_rules
never_reached = refl
