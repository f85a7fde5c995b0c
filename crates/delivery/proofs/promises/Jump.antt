-- 02, request 8, of deliveries. The law of demand 3 has the rule in its refusals (`refusal_of`), so `demand_3` speaks of it as it
-- stands; what is said here is what the rule is for.
use mathlib.Core.Path.{◌≡◌, refl, sym, ap, ◌∙◌}
use mathlib.Core.Bool.{true, false}
use Prim.Native.Nat.{ℕ}
use mathlib.Core.List.{List, [], ◌∷◌, ◌++◌}
use lib.ListN.{length}
use borrow.Author.Tests.{eqb-true}
use lib.Dec.{eqb}
use lib.IntN.{ℤ, pos, ◌-ℤ◌}
use lib.Signed.{◌≤ℤ◌}
use Rattle.whole.specs.Numbers.{size}
use Rattle.whole.proofs.Truth.{both}
use Rattle.settings.specs.declared.Settings.{Settings}
use Rattle.settings.specs.Table.{farthest, rows_of}
use Rattle.settings.specs.Settings.{in_table}
use Rattle.settings.specs.SettingsC.{settings_with}
use Rattle.temperature.specs.Temperature.{code_of, first_bad, first_code}
use Rattle.window.specs.Window.{fresh_window, window_ok}
use Rattle.command.specs.declared.Command.{Command}
use Rattle.command.specs.declared.Command.TheVariants.{Sample, Target}
use Rattle.command.specs.Sequence.{after}
use Rattle.command.proofs.Sequences.{after_append}
use Rattle.record.specs.declared.Loop.{Loop}
use Rattle.record.specs.Units.{fine}
use Rattle.record.specs.Record.{fresh_of, valid}
use Rattle.record.specs.Refusals.{refusal_of}
use Rattle.record.specs.Commands.{with_mode}
use Rattle.pid.specs.Sample.{acted_of}
use Rattle.pid.specs.Law.{with_moving, sample_of, step_of}
use Rattle.pid.specs.Plain.{plain_refusal_of}
use Rattle.pid.specs.Run.{obeyed, accepted, samples}
use Rattle.pid.proofs.Obeys.{settings_after}
use Rattle.pid.proofs.promises.Jump.{farthest_is_plain, taken_is_near, neighbours}
use Rattle.memory.specs.Memory.{window, memory_ok as memory_rules}
use Rattle.memory.specs.Walk.{Delivery, kept}
use Rattle.delivery.specs.declared.numbered.Numbered.{Numbered}
use Rattle.delivery.specs.Numbered.{new_of, memory_ok, valid_of}
use Rattle.delivery.specs.Demand3.{handed_back, recalled, standing, kept_on}
use Rattle.delivery.specs.Replay.{Replayed, replay_refusal, refused_of, replayed_of}
use Rattle.delivery.proofs.Ended.{end_from, all_valid, kept_accepted}

-- ---- "In automatic, a sample further than jump from the last kept raw temperature is refused"

-- an accepted command among others is accepted in the state that those before it reach
accepted_there : (l : Loop) (front : List Command) (c : Command) (rest : List Command) → accepted l (front ++ (c ∷ rest)) ≡ true → refusal_of (obeyed l front) c ≡ 0
unfolding accepted after
accepted_there l [] c rest e = eqb-true _ 0 (both (eqb (refusal_of l c) 0) (accepted (step_of l c) rest) e).0
accepted_there l (d ∷ front) c rest e =
    accepted_there (step_of l d) front c rest (both (eqb (refusal_of l d) 0) (accepted (step_of l d) (front ++ (c ∷ rest))) e).1

module _ (s : Numbered) (ds : List (Delivery Command)) where
  kept_there : (front : List Command) (c : Command) (rest : List Command) → kept_on s ds ≡ front ++ (c ∷ rest) → refusal_of (obeyed s.state front) c ≡ 0
  kept_there front c rest e =
      accepted_there s.state front c rest (ap (accepted s.state) (sym e) ∙ kept_accepted (standing s) ds)

  -- over any list of deliveries, two kept samples one after the other, a and then b, are never further apart than jump where b is kept
  -- in automatic. No other sample stands between them; other commands may
  pub never_further : (front between rest : List Command) (a b : ℤ) → kept_on s ds ≡ (front ++ (Sample a ∷ between)) ++ (Sample b ∷ rest) →
      samples between ≡ 0 → (obeyed s.state (front ++ (Sample a ∷ between))).automatic ≡ true → pos (size (b -ℤ a)) ≤ℤ s.state.settings.jump
  unfolding after
  never_further front between rest a b e n m =
      let l = obeyed s.state front in
      let x = after_append step_of s.state front (Sample a ∷ between) in
      let k = kept_there (front ++ (Sample a ∷ between)) (Sample b) rest e in
      let h = neighbours l a b between n (ap (λ (y : Loop). y.automatic) (sym x) ∙ m) (ap (λ (y : Loop). refusal_of y (Sample b)) (sym x) ∙ k) in
      rw (settings_after s.state front) at h

  -- and from a loop that is primed the first kept sample is no further from the last kept raw temperature, if it is kept in automatic
  pub first_near : (between rest : List Command) (b : ℤ) → kept_on s ds ≡ between ++ (Sample b ∷ rest) → samples between ≡ 0 →
      s.state.primed ≡ true → (obeyed s.state between).automatic ≡ true → pos (size (b -ℤ s.state.raw)) ≤ℤ s.state.settings.jump
  first_near between rest b e n p m = taken_is_near s.state between b p n m (kept_there between (Sample b) rest e)

  -- ---- with jump 2,000,000 nothing is refused that was not before, after any list of deliveries

  pub farthest_always : valid_of s ≡ true → s.state.settings.jump ≡ pos farthest → (c : Command) →
      refusal_of (after handed_back s ds).state c ≡ plain_refusal_of (after handed_back s ds).state c
  farthest_always v j c =
      let t = after handed_back s ds in
      let x = ap (λ (y : Numbered). y.state.settings.jump) (end_from s v ds) in
      let y = ap (λ (z : Settings). z.jump) (settings_after s.state (kept_on s ds)) in
      farthest_is_plain t.state c (both (memory_ok t) (valid t.state) (all_valid s ds v)).1 (x ∙ y ∙ j)

-- ---- that there is something to speak of

abbrev sent : ℕ → Command → Delivery Command
sent number command = record { number = number; command = command }

-- settings C with jump 10, automatic, with 480 kept
abbrev tight : Numbered
tight =
    let l = fresh_of (settings_with (pos 1) (pos 10)) in
    new_of
    (with_moving (with_mode l true false 0) l.window (pos 480)
    (record { w = l.w; u = l.u; integral = fine 80 0; y = fine 480 0; primed = true; pending = false }))

-- a wild reading is refused and leaves its number free, and the samples that are kept lie 10 apart
pub wild_met :
    let ds = sent 1 (Sample (pos 491)) ∷ sent 1 (Sample (pos 490)) ∷ sent 2 (Target (pos 800) (pos 50)) ∷ sent 3 (Sample (pos 501)) ∷ sent 3 (Sample (pos 500)) ∷ [] in
    (kept_on tight ds ≡ ([] ++ (Sample (pos 490) ∷ Target (pos 800) (pos 50) ∷ [])) ++ (Sample (pos 500) ∷ []))
    × (samples (Target (pos 800) (pos 50) ∷ []) ≡ 0)
    × ((obeyed tight.state (Sample (pos 490) ∷ Target (pos 800) (pos 50) ∷ [])).automatic ≡ true)
    × (tight.state.primed ≡ true)
unfolding acted_of code_of sample_of step_of refusal_of kept recalled samples after
wild_met = (refl, refl, refl, refl)

-- "jump=10, last kept 480: [490, 479] is 19 at 1; [490, 501, 1000001] is 19 at 1; [490, 1000001, 5] is 4 at 1"
abbrev replayed : List ℤ → Replayed
replayed pvs = replayed_of tight 1 pvs (length pvs)

pub replays_met :
    (replayed (pos 490 ∷ pos 479 ∷ []) ≡ refused_of tight 19 1)
    × (replayed (pos 490 ∷ pos 501 ∷ pos 1000001 ∷ []) ≡ refused_of tight 19 1)
    × (replayed (pos 490 ∷ pos 1000001 ∷ pos 5 ∷ []) ≡ refused_of tight 4 1)
unfolding rows_of in_table fresh_window window_ok valid window memory_rules code_of first_bad first_code replay_refusal replayed_of
replays_met = (refl, refl, refl)
