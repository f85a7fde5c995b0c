-- DEMAND 3. Its sentences and the statement `Demand3` stand together in specs/Demand3.antt, the walk in memory/specs/Walk.antt;
-- here it is shown.
use mathlib.Core.Path.{◌≡◌, refl, subst}
use mathlib.Core.Bool.{true}
use mathlib.Core.List.{List, [], ◌∷◌, map}
use lib.IntN.{pos, ◌+ℤ◌}
use lib.ListN.{take}
use Rattle.settings.specs.declared.Settings.{Settings}
use Rattle.settings.specs.Table.{rows_of}
use Rattle.settings.specs.Settings.{in_table}
use Rattle.command.specs.declared.Command.{Command}
use Rattle.command.specs.declared.Command.TheVariants.{Sample, Automatic, Target, Set}
use Rattle.temperature.specs.Temperature.{code_of}
use Rattle.record.specs.declared.Loop.{Loop}
use Rattle.record.specs.Record.{fresh_of}
use Rattle.record.specs.Record.{made_of as loop_made_of}
use Rattle.record.specs.Refusals.{refusal_of}
use Rattle.pid.specs.Units.{rounded}
use Rattle.settings.specs.SettingsC.{settings_c}
use Rattle.command.specs.Command.{same}
use Rattle.pid.specs.Sample.{lesser, greater, limited, ramped, filtered, derivative, sensed_of, clamped, back_calculated, integrated, acted_of}
use Rattle.pid.specs.Law.{sample_of, step_of}
use Rattle.command.specs.Sequence.{after}
use Rattle.pid.specs.Run.{unbroken, shares}
use Rattle.command.proofs.Same.{same_equal, same_self}
use Rattle.memory.specs.Memory.{window}
use Rattle.memory.specs.Walk.{Delivery, Walk, start, kept}
use Rattle.delivery.specs.declared.numbered.Numbered.{Numbered}
use Rattle.delivery.specs.Numbered.{new_of, made_of, valid_of}
use Rattle.delivery.specs.Demand3.{plain, handed_back, Demand3, recalled, standing, kept_on}
use Rattle.delivery.specs.Bench.{Row, log}
use Rattle.delivery.proofs.Ended.{end_from, answers_from, delivered_shares}
use Rattle.delivery.proofs.promises.Delivery.{made_valid}

-- from any record that keeps the state rules, also one never reached: the walk goes on from where it stands
pub demand_3_on : (s : Numbered) → valid_of s ≡ true → (ds : List (Delivery Command)) → Demand3 s (standing s) ds
demand_3_on s v ds = record { end_state = end_from s v ds; answers = answers_from s v ds }

-- a walk that has come to a loop with nothing kept is at its start
at_start : (l : Loop) → standing (new_of l) ≡ start plain window l
unfolding window recalled
at_start l = refl

-- "Start a loop from accepted settings and deliver any list at all"
pub demand_3 : (s : Settings) → (made_of s).code ≡ 0 → (ds : List (Delivery Command)) → Demand3 (made_of s).state (start plain window (made_of s).state.state) ds
demand_3 s e ds =
    subst (λ (w : Walk plain). Demand3 (made_of s).state w ds) (at_start (made_of s).state.state) (demand_3_on (made_of s).state (made_valid s e) ds)

-- "Over an unbroken run of kept ordinary automatic samples within limits, the integral moves by exactly the sum of gain times
-- error, one share for each sample": from any record that keeps the state rules, over any list of deliveries. Repeats, gaps,
-- reused numbers and refusals between add nothing
pub integral_moves_by_shares : (s : Numbered) (ds : List (Delivery Command)) → valid_of s ≡ true → unbroken s.state (kept_on s ds) ≡ true →
    (after handed_back s ds).state.integral ≡ s.state.integral +ℤ shares s.state (kept_on s ds)
integral_moves_by_shares = delivered_shares

-- "an exact repeat": the walk's test of two commands is whether they are equal, values and all
pub exact : (a b : Command) → (same a b ≡ true → a ≡ b) × (a ≡ b → same a b ≡ true)
exact a b = (same_equal a b, λ e. subst (λ (x : Command). same a x ≡ true) e (same_self a))

-- ---- that there is something to speak of

-- settings C are accepted
pub accepted_c : (made_of settings_c).code ≡ 0
unfolding loop_made_of in_table rows_of
accepted_c = refl

-- of the bench log's fourteen deliveries the walk keeps ten: not the repeat, the reused number, the gap and the refused put
pub bench_kept :
    kept plain window (start plain window (fresh_of settings_c)) (map (λ (r : Row). record { number = r.number; command = r.command }) (take 14 log))
    ≡ Sample (pos 480)
    ∷ Automatic
    ∷ Sample (pos 480)
    ∷ Sample (pos 480)
    ∷ Sample (pos 478)
    ∷ Set (pos 1)
    ∷ Sample (pos 476)
    ∷ Sample (pos 476)
    ∷ Target (pos 800) (pos 50)
    ∷ Sample (pos 476)
    ∷ []
unfolding rounded lesser greater limited ramped filtered derivative sensed_of clamped back_calculated integrated acted_of code_of sample_of step_of refusal_of kept log
bench_kept = refl
