-- 01, "Replay". "On success the record and outputs are those of delivering the n samples in order; the first n places hold
-- the outputs, every later place keeps its number, and the count is n." The contract of `replay` says so by its definition
-- (specs/Replay.antt); here is what follows from it.
use Prim.Native.Nat.{ℕ, ◌+◌, ◌<◌, ◌≤◌}
use mathlib.Core.Path.{◌≡◌, refl, sym, ap, ◌∙◌}
use mathlib.Core.Bool.{true, false}
use mathlib.Core.List.{List, [], ◌∷◌, ◌++◌, map}
use native.Mathlib.Omega.{arith}
use borrow.Author.Tests.{eqb-false}
use lib.Dec.{eqb}
use lib.IntN.{ℤ, pos}
use lib.ListN.{length, take, drop, get_or}
use lib.Seq.{length-take-le}
use Rattle.whole.specs.Numbers.{inside}
use Rattle.whole.proofs.Truth.{never, both, by_test}
use Rattle.settings.specs.Table.{rows_of}
use Rattle.settings.specs.Settings.{in_table}
use Rattle.command.specs.declared.Command.TheVariants.{Sample}
use Rattle.settings.specs.SettingsC.{settings_c}
use Rattle.temperature.specs.Temperature.{code_of, first_bad, first_code}
use Rattle.temperature.proofs.Earliest.{front_good}
use Rattle.temperature.proofs.promises.Jump.{code_at, earliest, none_bad, all_good}
use Rattle.record.specs.Record.{fresh_of, in_b, guard_of, valid}
use Rattle.record.proofs.Rules.{holds_of}
use Rattle.pid.specs.Play.{has_place, after_samples, outputs_of}
use Rattle.command.specs.Sequence.{after, each}
use Rattle.window.specs.Window.{fresh_window, window_ok}
use Rattle.pid.proofs.Plays.{bad_after}
use Rattle.memory.specs.Memory.{window, memory_ok as memory_rules, last_number, filled_of}
use Rattle.memory.specs.Walk.{Answer}
use Rattle.delivery.specs.declared.numbered.Numbered.{Numbered}
use Rattle.delivery.specs.Numbered.{Delivered, new_of, memory_ok, valid_of, delivered_of}
use Rattle.delivery.specs.Demand3.{handed_back, answered, standing, kept_on}
use Rattle.delivery.specs.Replay.{Replayed, numbered, record_after, numbers_left, replay_refusal, replayed_of, written_of}
use Rattle.delivery.proofs.Ended.{all_valid}
use Rattle.delivery.proofs.Served.{refused_one}
use Rattle.delivery.proofs.Replays.{record_is, all_kept}
use Rattle.delivery.proofs.Sent.{outputs_length, front_length, front_later, again_old}
use Rattle.delivery.proofs.ReplayOrder.{bad_sample, accepted_of, accepted_when, code_1, refuses, done, by_code}

-- a replay that is not refused: the record and the outputs are those of single deliveries
pub as_delivered : (s : Numbered) (first : ℕ) (samples out : List ℤ) → replay_refusal s first samples (length out) ≡ 0 →
    (replayed_of s first samples (length out) ≡ record { code = 0; place = 0; count = length samples; state = after handed_back s (numbered first samples) })
    × (written_of s first samples out ≡ map (λ (a : Answer ℤ). a.output) (each handed_back answered s (numbered first samples)) ++ drop (length samples) out)
as_delivered s first samples out e =
    let d = done s first samples out e in
    (sym d.0, sym d.1 ∙ rw (outputs_length s first samples))

-- and the law keeps each of those deliveries
pub each_kept : (s : Numbered) (first : ℕ) (samples : List ℤ) (room : ℕ) → replay_refusal s first samples room ≡ 0 →
    kept_on s (numbered first samples) ≡ map Sample samples
each_kept s first samples room e =
    let a = accepted_of s first samples room e in
    rw a.next (all_kept (standing s) samples a.good)

-- it is refused exactly where 01 says: where one of these does not hold
pub record Taken (s : Numbered) (first : ℕ) (samples : List ℤ) (room : ℕ) : Type 0 where
  pub rules : valid_of s ≡ true
  pub number : first ≡ s.memory.number + 1
  pub places : length samples ≤ room
  pub numbers : length samples ≤ numbers_left s
  pub good : (i : ℕ) → i < length samples → code_at (guard_of s.state) samples i ≡ 0

pub taken_only : (s : Numbered) (first : ℕ) (samples : List ℤ) (room : ℕ) → replay_refusal s first samples room ≡ 0 → Taken s first samples room
taken_only s first samples room e =
    let a = accepted_of s first samples room e in
    record {
      rules = a.rules;
      number = a.next;
      places = a.long;
      numbers = a.numbers;
      good = none_bad (guard_of s.state) samples a.good;
    }

pub taken_when : (s : Numbered) (first : ℕ) (samples : List ℤ) (room : ℕ) → Taken s first samples room → replay_refusal s first samples room ≡ 0
taken_when s first samples room t =
    accepted_when s first samples room
    (record { rules = t.rules; next = t.number; long = t.places; numbers = t.numbers; good = all_good (guard_of s.state) samples t.good })

-- "the earliest bad sample is reported with its code and place": delivered one by one, the samples before that place are kept, and the
-- one at it is refused with that code
pub record RefusedAt (s : Numbered) (first : ℕ) (samples : List ℤ) (code place : ℕ) : Type 0 where
  pub there : place < length samples
  pub before : kept_on s (numbered first (take place samples)) ≡ map Sample (take place samples)
  pub here :
      (answered (record_after s first (take place samples)) (record { number = first + place; command = Sample (get_or samples place (pos 0)) })).code
      ≡ code

-- of the next number on
refused_next : (s : Numbered) (samples : List ℤ) → valid_of s ≡ true → (first_code (guard_of s.state) samples ≡ 0 → ⊥) →
    RefusedAt s (s.memory.number + 1) samples (first_code (guard_of s.state) samples) (first_bad (guard_of s.state) samples)
unfolding filled_of
refused_next s samples v h =
    let l = s.state in
    let n = first_bad (guard_of l) samples in
    let t = take n samples in
    let c = Sample (get_or samples n (pos 0)) in
    let e = earliest (guard_of l) samples h in
    let f = front_good (guard_of l) samples in
    let b = bad_after l samples h in
    let long = length-take-le n samples (omega (arith, e.there)) in
    let x = record_is s t v f in
    let u = ap valid_of (sym x) ∙ all_valid s (numbered (s.memory.number + 1) t) v in
    let r : Numbered = record { state = after_samples l t; memory = filled_of s.memory (s.memory.number + length t) t (outputs_of l t) } in
    record {
      there = e.there;
      before = all_kept (standing s) t f;
      here =
          ap (λ (y : Numbered). (delivered_of y (s.memory.number + 1 + n) c).code) x
          ∙ ap (λ (d : Delivered). d.code) (refused_one r (s.memory.number + 1 + n) c u (omega (arith, long)) (λ z. h (sym b ∙ z)))
          ∙ b;
    }

pub earliest_bad : (s : Numbered) (first : ℕ) (samples out : List ℤ) → has_place (replayed_of s first samples (length out)).code ≡ true →
    RefusedAt s first samples (replayed_of s first samples (length out)).code (replayed_of s first samples (length out)).place
unfolding replayed_of
earliest_bad s first samples out h = by_test (eqb code 0) (λ e. never (rw e at h)) refused where
  code : ℕ
  code = replay_refusal s first samples (length out)

  refused : eqb code 0 ≡ false → RefusedAt s first samples (replayed_of s first samples (length out)).code (replayed_of s first samples (length out)).place
  refused e =
      let k : has_place code ≡ true = rw e at h in
      let b = bad_sample s first samples (length out) k in
      rw (e, k) (rw (← b.next, b.code) at (refused_next s samples b.rules (λ z. eqb-false code 0 e (sym b.code ∙ z))))

-- "On a refusal neither record nor list changes, and the count is 0."
pub refused_back : (s : Numbered) (first : ℕ) (samples out : List ℤ) → ((replayed_of s first samples (length out)).code ≡ 0 → ⊥) →
    ((replayed_of s first samples (length out)).state ≡ s) × ((replayed_of s first samples (length out)).count ≡ 0) × (written_of s first samples out ≡ out)
refused_back s first samples out =
    by_code s first samples out (λ (r : Replayed) (o : List ℤ). (r.code ≡ 0 → ⊥) → (r.state ≡ s) × (r.count ≡ 0) × (o ≡ out))
    (λ _ f. absurd (f refl)) (λ _ _ _ _. (refl, refl, refl))

-- "every later place keeps its number"
pub later_places : (s : Numbered) (first : ℕ) (samples out : List ℤ) (i : ℕ) → length samples ≤ i →
    get_or (written_of s first samples out) i (pos 0) ≡ get_or out i (pos 0)
later_places s first samples out i h =
    by_code s first samples out (λ (r : Replayed) (o : List ℤ). get_or o i (pos 0) ≡ get_or out i (pos 0))
    (λ _. front_later s first samples out i h) (λ _ _ _. refl)

pub same_length : (s : Numbered) (first : ℕ) (samples out : List ℤ) → length (written_of s first samples out) ≡ length out
same_length s first samples out =
    by_code s first samples out (λ (r : Replayed) (o : List ℤ). length o ≡ length out)
    (λ a. front_length s first samples out a.long) (λ _ _ _. refl)

-- "A replay that kept at least one sample and is sent again whole is refused 1, also when n was 1."
pub sent_again : (s : Numbered) (first : ℕ) (samples out again : List ℤ) → replay_refusal s first samples (length out) ≡ 0 → 1 ≤ length samples →
    (replayed_of (replayed_of s first samples (length out)).state first samples (length again)
    ≡ record { code = 1; place = 0; count = 0; state = (replayed_of s first samples (length out)).state })
    × (written_of (replayed_of s first samples (length out)).state first samples again ≡ again)
sent_again s first samples out again e h =
    let t = record_after s first samples in
    let o = again_old s first samples (length out) (length again) (accepted_of s first samples (length out) e) h in
    let r = refuses t first samples again 1 o (λ z. omega (arith, z)) in
    rw (← (done s first samples out e).0) (sym r.0, sym r.1)

-- "No samples: done, nothing changes."
pub no_samples : (s : Numbered) (out : List ℤ) → valid_of s ≡ true →
    (replayed_of s (s.memory.number + 1) [] (length out) ≡ record { code = 0; place = 0; count = 0; state = s }) × (written_of s (s.memory.number + 1) [] out ≡ out)
unfolding after each numbered first_code
no_samples s out v =
    let n = s.memory.number + 1 in
    let d = done s n [] out (accepted_when s n [] (length out) (record { rules = v; next = refl; long = omega arith; numbers = omega arith; good = refl })) in
    (sym d.0, sym d.1)

-- after number 4,294,967,295 every replay is 1
pub last_number_lem : (s : Numbered) (first : ℕ) (samples out : List ℤ) → valid_of s ≡ true → s.memory.number ≡ last_number → first ≤ last_number →
    replayed_of s first samples (length out) ≡ record { code = 1; place = 0; count = 0; state = s }
last_number_lem s first samples out v e h =
    sym (refuses s first samples out 1 (code_1 s first samples (length out) v (omega arith)) (λ z. omega (arith, z))).0

-- DEMAND 1, of replay: the record that comes back keeps the state rules, power lies within lo..hi, the integral within ±B
pub again_valid : (s : Numbered) (first : ℕ) (samples out : List ℤ) → valid_of s ≡ true → valid_of (replayed_of s first samples (length out)).state ≡ true
again_valid s first samples out v =
    by_code s first samples out (λ (r : Replayed) (o : List ℤ). valid_of r.state ≡ true) (λ _. all_valid s (numbered first samples) v) (λ _ _ _. v)

pub power_within : (s : Numbered) (first : ℕ) (samples out : List ℤ) → valid_of s ≡ true →
    inside
    (replayed_of s first samples (length out)).state.state.settings.lo
    (replayed_of s first samples (length out)).state.state.settings.hi
    (replayed_of s first samples (length out)).state.state.u
    ≡ true
power_within s first samples out v =
    let t = (replayed_of s first samples (length out)).state in
    (holds_of t.state (both (memory_ok t) (valid t.state) (again_valid s first samples out v)).1).u

pub integral_within : (s : Numbered) (first : ℕ) (samples out : List ℤ) → valid_of s ≡ true →
    in_b (replayed_of s first samples (length out)).state.state.integral ≡ true
integral_within s first samples out v =
    let t = (replayed_of s first samples (length out)).state in
    (holds_of t.state (both (memory_ok t) (valid t.state) (again_valid s first samples out v)).1).integral

-- a replay that is not refused
pub taken_c : replay_refusal (new_of (fresh_of settings_c)) 1 (pos 480 ∷ []) 1 ≡ 0
unfolding replay_refusal first_code code_of fresh_window window_ok valid in_table rows_of window memory_rules
taken_c = refl
