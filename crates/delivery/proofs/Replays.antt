-- Samples delivered in order, from a record that keeps the state rules: each is kept, and what they do is what the plain law's
-- list of samples does.
use Prim.Native.Nat.{ℕ, ◌+◌, ◌≤◌}
use mathlib.Core.Path.{◌≡◌, refl, sym, ap, ap₂, ◌∙◌}
use mathlib.Core.Bool.{true}
use mathlib.Core.List.{List, [], ◌∷◌, map}
use native.Mathlib.Omega.{arith}
use borrow.Author.Tests.{eq-eqb}
use lib.IntN.{ℤ}
use lib.ListN.{length, take, drop, length-map}
use Rattle.whole.proofs.Truth.{and, cond_yes}
use Rattle.temperature.specs.Temperature.{first_code}
use Rattle.window.specs.Means.{front_filled}
use Rattle.command.specs.declared.Command.{Command}
use Rattle.command.specs.declared.Command.TheVariants.{Sample}
use Rattle.record.specs.declared.Loop.{Loop}
use Rattle.record.specs.Record.{guard_of}
use Rattle.record.specs.Refusals.{refusal_of}
use Rattle.pid.specs.Law.{step_of}
use Rattle.command.specs.Sequence.{each}
use Rattle.pid.specs.Play.{Played, after_samples, outputs_of, play_refusal, played_of, wrote_of}
use Rattle.pid.proofs.Plays.{good_first, after_commands, outputs_length, played_refused, played_done, playable}
use Rattle.memory.specs.declared.Entry.{Entry}
use Rattle.memory.specs.declared.Memory.{Memory}
use Rattle.memory.specs.Memory.{window, entry_of, newest, entries_of, filled_of}
use Rattle.memory.proofs.Filled.{entries_front}
use Rattle.memory.specs.Walk.{Delivery, Answer, Walk, keeps, keeping, kept_answer, onward, answer_to, kept}
use Rattle.delivery.specs.declared.numbered.Numbered.{Numbered}
use Rattle.delivery.specs.Numbered.{memory_ok, valid_of}
use Rattle.delivery.specs.Demand3.{plain, kept_entries, after_kept, standing}
use Rattle.delivery.specs.Replay.{numbered, record_after, delivered_outputs, numbers_left, replay_refusal, done_of, refused_of}
use Rattle.delivery.proofs.Ended.{end_from, answers_from}
use Rattle.delivery.proofs.ReplayOrder.{numbers_0, as_played, Replays, refuses, done}

-- ---- each good sample with the next number is kept

abbrev output : Answer ℤ → ℤ
output a = a.output

abbrev sent : ℕ → ℤ → Delivery Command
sent n pv = record { number = n; command = Sample pv }

module _ (w : Walk plain) (pv : ℤ) (e : refusal_of w.state (Sample pv) ≡ 0) where
  next_kept : keeps plain window w (sent (w.count + 1) pv) ≡ true
  next_kept = and (eq-eqb (w.count + 1) (w.count + 1) refl) (eq-eqb (refusal_of w.state (Sample pv)) 0 e)

  next_onward : onward plain window w (sent (w.count + 1) pv) ≡ keeping plain window w (sent (w.count + 1) pv)
  next_onward = cond_yes _ _ next_kept

pub all_kept : (w : Walk plain) (pvs : List ℤ) → first_code (guard_of w.state) pvs ≡ 0 → kept plain window w (numbered (w.count + 1) pvs) ≡ map Sample pvs
unfolding kept numbered
all_kept w [] g = refl
all_kept w (pv ∷ pvs) g =
    let h = good_first w.state pv pvs g in
    let d = sent (w.count + 1) pv in
    cond_yes _ _ (next_kept w pv h.0)
    ∙ ap (λ (x : Walk plain). Sample pv ∷ kept plain window x (numbered (w.count + 1 + 1) pvs)) (next_onward w pv h.0)
    ∙ ap (λ (cs : List Command). Sample pv ∷ cs) (all_kept (keeping plain window w d) pvs h.1)

outputs_on : (w : Walk plain) (pvs : List ℤ) → first_code (guard_of w.state) pvs ≡ 0 →
    map output (each (onward plain window) (answer_to plain window) w (numbered (w.count + 1) pvs)) ≡ outputs_of w.state pvs
unfolding each numbered
outputs_on w [] g = refl
outputs_on w (pv ∷ pvs) g =
    let h = good_first w.state pv pvs g in
    let d = sent (w.count + 1) pv in
    ap₂ (λ (u : ℤ) (us : List ℤ). u ∷ us)
    (ap output (cond_yes (kept_answer plain window w d) _ (next_kept w pv h.0)))
    (ap (λ (x : Walk plain). map output (each (onward plain window) (answer_to plain window) x (numbered (w.count + 1 + 1) pvs))) (next_onward w pv h.0)
    ∙ outputs_on (keeping plain window w d) pvs h.1)

-- the kept samples with their outputs
entries_are : (l : Loop) (pvs : List ℤ) → kept_entries l (map Sample pvs) ≡ entries_of pvs (outputs_of l pvs)
unfolding each
entries_are l [] = refl
entries_are l (pv ∷ pvs) = ap (λ (es : List Entry). entry_of (Sample pv) (step_of l (Sample pv)).u ∷ es) (entries_are (step_of l (Sample pv)) pvs)

-- ---- both together

module _ (s : Numbered) (pvs : List ℤ) (v : valid_of s ≡ true) (g : first_code (guard_of s.state) pvs ≡ 0) where
  -- the memory is filled at once
  pub record_is :
      record_after s (s.memory.number + 1) pvs
      ≡ record { state = after_samples s.state pvs; memory = filled_of s.memory (s.memory.number + length pvs) pvs (outputs_of s.state pvs) }
  unfolding filled_of
  record_is =
      end_from s v (numbered (s.memory.number + 1) pvs)
      ∙ ap (after_kept s) (all_kept (standing s) pvs g)
      ∙ rw (after_commands s.state pvs, length-map pvs Sample, entries_are s.state pvs)

  pub outputs_are : delivered_outputs s (s.memory.number + 1) pvs ≡ outputs_of s.state pvs
  outputs_are = ap (map output) (answers_from s v (numbered (s.memory.number + 1) pvs)) ∙ outputs_on (standing s) pvs g

-- what stands in the output list behind the outputs is not looked at
pub filled_front : (m : Memory) (n : ℕ) (l : Loop) (pvs out written : List ℤ) → written ≡ front_filled (outputs_of l pvs) out →
    filled_of m n pvs written ≡ filled_of m n pvs (outputs_of l pvs)
unfolding filled_of
filled_front m n l pvs out written e =
    ap (λ (es : List Entry). record { number = n; entries = take window (newest m.entries es) })
    (ap (entries_of pvs) e ∙ entries_front pvs (outputs_of l pvs) (drop (length (outputs_of l pvs)) out) (outputs_length l pvs))

-- ---- a replay from the next number on, whose samples have their places and their numbers, is the law's list of samples

module _ (s : Numbered) (pvs out : List ℤ) (m : memory_ok s ≡ true) (long : length pvs ≤ length out) (numbers : length pvs ≤ numbers_left s) where
  abbrev next : ℕ
  next = s.memory.number + 1

  abbrev played : Played
  played = played_of s.state pvs (length out)

  law's : replay_refusal s next pvs (length out) ≡ play_refusal s.state pvs (length out)
  law's = as_played s next pvs (length out) m (numbers_0 s next (length pvs) (length out) (omega arith) (omega arith) long numbers) long

  pub played_stops : (played.code ≡ 0 → ⊥) → Replays s next pvs out (refused_of s played.code played.place) (wrote_of s.state pvs out)
  played_stops z =
      let r = played_refused s.state pvs out z in
      let b = refuses s next pvs out played.code (law's ∙ r.refusal) z in
      (ap (refused_of s played.code) r.place ∙ b.0, r.list ∙ b.1)

  pub played_through : played.code ≡ 0 → (valid_of s ≡ true) × (first_code (guard_of s.state) pvs ≡ 0) × Replays s next pvs out (done_of s next pvs) (wrote_of s.state pvs out)
  played_through z =
      let d = played_done s.state pvs out z in
      let p = playable s.state pvs (length out) d.refusal in
      let v = and m p.rules in
      let b = done s next pvs out (law's ∙ d.refusal) in
      (v, p.good, (b.0, d.list ∙ ap (λ (us : List ℤ). front_filled us out) (sym (outputs_are s pvs v p.good)) ∙ b.1))
