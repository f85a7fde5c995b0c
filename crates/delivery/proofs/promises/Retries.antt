-- 02, request 6. "The new queue may redeliver up to 32 commands late." Demand 3 as it is amended is `demand_3` of Demand3.antt; here
-- is what it is for, and the request's own sentences, from any record that keeps the state rules.
use Prim.Native.Nat.{ℕ, zero, suc, ◌+◌, ◌≤◌, ◌<◌}
use mathlib.Core.Path.{◌≡◌, refl, sym, ap, subst, ◌∙◌}
use mathlib.Core.Bool.{true}
use mathlib.Core.List.{List, [], ◌∷◌, ◌++◌, map}
use native.Mathlib.Omega.{arith}
use lib.IntN.{ℤ, pos}
use lib.ListN.{length, take}
use Rattle.whole.proofs.Truth.{by_test}
use Rattle.settings.specs.declared.Settings.{Settings}
use Rattle.settings.specs.Table.{rows_of}
use Rattle.settings.specs.Settings.{in_table}
use Rattle.settings.specs.SettingsC.{settings_c}
use Rattle.command.specs.declared.Command.{Command}
use Rattle.command.specs.declared.Command.TheVariants.{Sample, Hold}
use Rattle.command.specs.Sequence.{after}
use Rattle.command.proofs.Same.{same_self}
use Rattle.temperature.specs.Temperature.{code_of, first_code}
use Rattle.window.specs.Window.{fresh_window, taken, mean_at, window_ok}
use Rattle.record.specs.Record.{fresh_of, guard_of, valid}
use Rattle.record.specs.Refusals.{refusal_of}
use Rattle.pid.specs.Units.{rounded}
use Rattle.pid.specs.Sample.{lesser, greater, limited, ramped, filtered, derivative, sensed_of, clamped, back_calculated, integrated, acted_of}
use Rattle.pid.specs.Law.{sample_of, step_of}
use Rattle.pid.specs.Play.{outputs_of}
use Rattle.pid.proofs.Plays.{good_first}
use Rattle.std.specs.declared.option.Option.TheVariants.{Some}
use Rattle.memory.specs.declared.Entry.{Entry}
use Rattle.memory.specs.Memory.{window, last_number, remembered, filled_of, memory_ok as memory_rules, is_last, found_in, found_by, entry_at}
use Rattle.memory.specs.Walk.{Delivery, kept}
use Rattle.memory.proofs.Order.{InWindow, last_is, is_last_lem}
use Rattle.memory.proofs.Walked.{ends, kept_most}
use Rattle.memory.proofs.Late.{late}
use Rattle.delivery.specs.declared.numbered.Numbered.{Numbered}
use Rattle.delivery.specs.Numbered.{Delivered, new_of, made_of, valid_of, answer_of, served_of, delivered_of}
use Rattle.delivery.specs.Demand3.{plain, answered, handed_back, recalled, standing, kept_on}
use Rattle.delivery.specs.Replay.{Replayed, numbered, record_after, replay_refusal, replayed_of}
use Rattle.delivery.specs.Bench.{Row, log}
use Rattle.delivery.proofs.Served.{by_delivery_lem, kept_one, zero_one, old_one, repeat_one, reused_one, delivered_valid}
use Rattle.delivery.proofs.Stands.{stands_at, numbered as engine}
use Rattle.delivery.proofs.Ended.{standing_good, standing_runs, stands, end_from, all_valid}
use Rattle.delivery.proofs.Replays.{record_is}
use Rattle.delivery.proofs.Sent.{numbered_length}
use Rattle.delivery.proofs.ReplayOrder.{accepted_of, done}
use Rattle.delivery.proofs.promises.Delivery.{made_valid}

-- ---- a late repeat

-- "gets its first answer again", and nothing changes
pub record Again (first later : Numbered) (d : Delivery Command) : Type 0 where
  pub answer : answered later d ≡ answered first d
  pub nothing : handed_back later d ≡ later

-- a delivery that got code 0, kept or a repeat: after any list of deliveries since, as long as its number is one of the last 32, the
-- same delivery gets the same answer and changes nothing
pub late_repeat : (s : Numbered) (d : Delivery Command) (since : List (Delivery Command)) → valid_of s ≡ true → (answered s d).code ≡ 0 →
    (after handed_back (handed_back s d) since).memory.number < d.number + window → Again s (after handed_back (handed_back s d) since) d
unfolding after
late_repeat s d since v = subst Late (stands s v) at_walk where
  Late : Numbered → Type 0
  Late x =
      (answered x d).code ≡ 0 → (after handed_back (handed_back x d) since).memory.number < d.number + window →
      Again x (after handed_back (handed_back x d) since) d

  at_walk : Late (stands_at (standing s))
  at_walk z b =
      let g = standing_good s v in
      let r = standing_runs s v in
      let e = ap (λ (x : Numbered). x.memory.number) (ends plain window engine (standing s) (d ∷ since) g r) in
      let f = late plain window engine (standing s) d since (same_self d.command) g r z (subst (λ (n : ℕ). n < d.number + window) e b) in
      record { answer = f.0; nothing = f.1 }

-- what a delivery that is kept is: "its number is one more than the count kept so far and the law accepts its content"
pub record IsKept (s : Numbered) (d : Delivery Command) : Type 0 where
  pub number : d.number ≡ s.memory.number + 1
  pub accepted : refusal_of s.state d.command ≡ 0

-- from any record: fewer than 32 others kept since
pub kept_repeat : (s : Numbered) (d : Delivery Command) (since : List (Delivery Command)) → valid_of s ≡ true → IsKept s d →
    length (kept_on (handed_back s d) since) < window → Again s (after handed_back (handed_back s d) since) d
unfolding remembered
kept_repeat s d since v k b =
    let t = handed_back s d in
    let e = kept_one s d.number d.command v k.number k.accepted in
    let n : t.memory.number ≡ d.number = ap (λ (r : Delivered). r.state.memory.number) e in
    let m = ap (λ (x : Numbered). x.memory.number) (end_from t (delivered_valid s d.number d.command v) since) in
    late_repeat s d since v (ap (λ (r : Delivered). r.code) e) (omega (arith, m, n))

-- from a fresh loop: deliver any list, then a delivery that is kept, then any list in which fewer than 32 others are kept. The same
-- delivery gets the same answer and changes nothing
pub first_answer_again : (s : Settings) → (made_of s).code ≡ 0 → (before : List (Delivery Command)) (d : Delivery Command) (since : List (Delivery Command)) →
    let first = after handed_back (made_of s).state before in
    let later = after handed_back (handed_back first d) since in
    IsKept first d → length (kept_on (handed_back first d) since) < window → Again first later d
first_answer_again s e before d since k b =
    kept_repeat (after handed_back (made_of s).state before) d since (all_valid (made_of s).state before (made_valid s e)) k b

-- ---- one delivery, by its number

module _ (s : Numbered) (n : ℕ) (c : Command) (v : valid_of s ≡ true) where
  -- "A repeat of any of them, same number and values, gets its first answer again: code 0, that output and its own number."
  pub repeat_served : InWindow n s.memory.number → (entry_at s.memory n).command ≡ Some c →
      delivered_of s n c ≡ record { code = 0; output = (entry_at s.memory n).output; number = n; state = s }
  repeat_served i e = repeat_one s n c v i (is_last_lem (entry_at s.memory n).command c e)

  -- "A number in that window with other values is 2"
  pub other_values : InWindow n s.memory.number → ((entry_at s.memory n).command ≡ Some c → ⊥) → delivered_of s n c ≡ answer_of 2 s
  other_values i f =
      by_test (is_last (entry_at s.memory n).command c)
      (λ e. absurd (f (last_is (entry_at s.memory n).command c e))) (λ e. reused_one s n c v i e)

  -- "older is 1", and number 0 is
  pub older : n + window ≤ s.memory.number → delivered_of s n c ≡ answer_of 1 s
  older = old_one s n c v

  pub number_zero : n ≡ 0 → delivered_of s n c ≡ answer_of 1 s
  number_zero = zero_one s n c v

-- "This amends 01 on what is served after number 4,294,967,295": the last 32, which `repeat_served` serves, and no other
pub last_number_lem : (s : Numbered) (n : ℕ) (c : Command) → s.memory.number ≡ last_number → n ≤ last_number → (delivered_of s n c).code ≡ 0 →
    InWindow n s.memory.number × ((entry_at s.memory n).command ≡ Some c)
last_number_lem s n c e h =
    by_delivery_lem (λ (r : Delivered). r.code ≡ 0 → InWindow n s.memory.number × ((entry_at s.memory n).command ≡ Some c)) s n c
    (λ _ z. absurd (omega (arith, z))) (λ _ _ f z. absurd (f z))
    (λ _ x i q t _. (i, ap (λ (y : Entry). y.command) (sym q) ∙ last_is x.command c t))
    (λ _ q _ _. absurd (omega (arith, q)))

-- ---- "Replayed samples enter the window too"

-- each with the output of its place
pub replay_remembers : (s : Numbered) (first : ℕ) (samples out : List ℤ) → replay_refusal s first samples (length out) ≡ 0 →
    (replayed_of s first samples (length out)).state.memory
    ≡ filled_of s.memory (s.memory.number + length samples) samples (outputs_of s.state samples)
replay_remembers s first samples out e =
    let a = accepted_of s first samples (length out) e in
    ap (λ (r : Replayed). r.state.memory) (sym (done s first samples out e).0)
    ∙ ap (λ (n : ℕ). (record_after s n samples).memory) a.next
    ∙ ap (λ (x : Numbered). x.memory) (record_is s samples a.rules a.good)

-- a replayed sample, sent again alone while it is one of the last 32: the answer that its own delivery would have got, and nothing
-- changes
next_again : (s : Numbered) (front : List ℤ) (pv : ℤ) (rest : List ℤ) → valid_of s ≡ true → first_code (guard_of s.state) (front ++ (pv ∷ rest)) ≡ 0 →
    length rest < window →
    Again (record_after s (s.memory.number + 1) front) (record_after s (s.memory.number + 1) (front ++ (pv ∷ rest)))
    (record { number = s.memory.number + 1 + length front; command = Sample pv })
unfolding after numbered remembered
next_again s [] pv rest v g b =
    let d : Delivery Command = record { number = s.memory.number + 1; command = Sample pv } in
    let since = numbered (s.memory.number + 1 + 1) rest in
    let few = kept_most plain window (standing (handed_back s d)) since in
    let many = numbered_length (s.memory.number + 1 + 1) rest in
    subst (λ (n : ℕ). Again s (after handed_back (handed_back s d) since) (record { number = n; command = Sample pv })) (omega arith)
    (kept_repeat s d since v (record { number = refl; accepted = (good_first s.state pv rest g).0 }) (omega (arith, few, many)))
next_again s (x ∷ front) pv rest v g b =
    let m = s.memory.number in
    let t = (delivered_of s (m + 1) (Sample x)).state in
    let h = good_first s.state x (front ++ (pv ∷ rest)) g in
    let e = ap (λ (r : Delivered). r.state) (kept_one s (m + 1) (Sample x) v refl h.0) in
    let good = ap (λ (y : Numbered). first_code (guard_of y.state) (front ++ (pv ∷ rest))) e ∙ h.1 in
    subst (λ (n : ℕ). Again (record_after t (m + 1 + 1) front) (record_after t (m + 1 + 1) (front ++ (pv ∷ rest))) (record { number = n; command = Sample pv })) (omega arith)
    (subst (λ (k : ℕ). Again (record_after t (k + 1) front) (record_after t (k + 1) (front ++ (pv ∷ rest))) (record { number = k + 1 + length front; command = Sample pv }))
    (ap (λ (y : Numbered). y.memory.number) e)
    (next_again t front pv rest (delivered_valid s (m + 1) (Sample x) v) good b))

pub replayed_again : (s : Numbered) (first : ℕ) (front : List ℤ) (pv : ℤ) (rest out : List ℤ) →
    replay_refusal s first (front ++ (pv ∷ rest)) (length out) ≡ 0 → length rest < window →
    Again (record_after s first front) (replayed_of s first (front ++ (pv ∷ rest)) (length out)).state (record { number = first + length front; command = Sample pv })
replayed_again s first front pv rest out e b =
    let a = accepted_of s first (front ++ (pv ∷ rest)) (length out) e in
    let d = done s first (front ++ (pv ∷ rest)) out e in
    rw (← d.0, a.next) (next_again s front pv rest a.rules a.good b)

-- ---- that there is something to speak of

abbrev sent : ℕ → Command → Delivery Command
sent number command = record { number = number; command = command }

-- the loop of settings C after numbers 1 to 10 of the bench log
abbrev tenth : Numbered
tenth = after handed_back (new_of (fresh_of settings_c)) (map (λ (r : Row). sent r.number r.command) (take 13 log))

-- number 4 again, six commands late: its first answer was 105, and 237 is in force. With another value it is 2
pub late_met :
    (answered tenth (sent 4 (Sample (pos 480))) ≡ record { code = 0; output = pos 105; number = 4 })
    × (answered tenth (sent 4 (Sample (pos 481))) ≡ record { code = 2; output = pos 237; number = 10 })
unfolding rounded rows_of in_table fresh_window taken mean_at window_ok valid lesser greater limited ramped filtered derivative sensed_of clamped back_calculated integrated acted_of code_of sample_of step_of refusal_of window memory_rules remembered is_last found_in found_by served_of delivered_of after log
late_met = (refl, refl)

-- a delivery that is kept, and 31 others since: what `first_answer_again` asks
abbrev holds : ℕ → ℕ → List (Delivery Command)
holds number zero = []
holds number (suc n) = sent number Hold ∷ holds (number + 1) n

pub farthest_met :
    IsKept (new_of (fresh_of settings_c)) (sent 1 (Sample (pos 480)))
    × (length (kept_on (handed_back (new_of (fresh_of settings_c)) (sent 1 (Sample (pos 480)))) (holds 2 31)) ≡ 31)
unfolding rounded rows_of in_table fresh_window taken mean_at window_ok valid lesser greater limited ramped filtered derivative sensed_of clamped back_calculated integrated acted_of code_of sample_of step_of refusal_of window memory_rules remembered found_by served_of delivered_of recalled kept
farthest_met = (record { number = refl; accepted = refl }, refl)
