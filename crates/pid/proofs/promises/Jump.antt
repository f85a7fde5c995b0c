-- 02, request 8, of the plain law. That a sample is refused 19 as its definition says is the contract of `obey`; what is said here
-- follows from it.
use Prim.Native.Nat.{ℕ, ◌+◌}
use mathlib.Core.Path.{◌≡◌, refl, sym, ap, ◌∙◌}
use mathlib.Core.Bool.{Bool, true, false, ◌&&◌}
use mathlib.Core.List.{List, [], ◌∷◌}
use native.Mathlib.Omega.{arith}
use lib.Dec.{eqb}
use lib.IntN.{ℤ, pos, ◌-ℤ◌}
use lib.Signed.{◌≤ℤ◌}
use Rattle.whole.specs.Numbers.{plus, size}
use Rattle.whole.proofs.Truth.{both, by_test, chosen}
use Rattle.whole.proofs.Parts.{lt_no, le_out}
use Rattle.settings.specs.declared.Settings.{Settings}
use Rattle.settings.specs.Table.{farthest, in_reach, rows_of}
use Rattle.settings.specs.Settings.{in_table}
use Rattle.settings.specs.SettingsC.{settings_with}
use Rattle.window.specs.Window.{fresh_window, taken, mean_at, window_ok}
use Rattle.temperature.specs.Temperature.{further, jumps, code_of}
use Rattle.temperature.proofs.Apart.{never_far}
use Rattle.temperature.proofs.Ranged.{taken_near}
use Rattle.command.specs.declared.Command.{Command}
use Rattle.command.specs.declared.Command.TheVariants.{Sample, Hold, Put, Automatic, Target, Set}
use Rattle.command.specs.Sequence.{after, each}
use Rattle.record.specs.declared.Loop.{Loop}
use Rattle.record.specs.Record.{fresh_of, guard_of, valid}
use Rattle.record.specs.Refusals.{refusal_of}
use Rattle.record.proofs.Refused.{sample_code}
use Rattle.record.proofs.Rules.{holds_of}
use Rattle.pid.specs.Units.{rounded}
use Rattle.pid.specs.Sample.{lesser, greater, limited, ramped, filtered, derivative, sensed_of, clamped, back_calculated, integrated, acted_of}
use Rattle.pid.specs.Law.{sample_of, step_of, law_of}
use Rattle.pid.specs.Plain.{plain_refusal_of}
use Rattle.pid.specs.Run.{obeyed, samples}

-- ---- with jump 2,000,000 the law is the law without the rule: its steps are the same, and it refuses the same

near : (l : Loop) (pv : ℤ) → valid l ≡ true → l.settings.jump ≡ pos farthest → in_reach pv ≡ true → jumps (guard_of l) pv ≡ false
near l pv v e i =
    let r = (both (in_reach l.raw) _ (holds_of l v).raw).0 in
    neither (l.automatic && l.primed) (ap (λ (j : ℤ). further j l.raw pv) e ∙ never_far l.raw pv r i)
  where
    neither : (a : Bool) {b : Bool} → b ≡ false → (a && b) ≡ false
    neither true e = e
    neither false e = refl

pub farthest_is_plain : (l : Loop) (c : Command) → valid l ≡ true → l.settings.jump ≡ pos farthest → refusal_of l c ≡ plain_refusal_of l c
unfolding refusal_of plain_refusal_of code_of
farthest_is_plain l (Sample pv) v e = by_test (in_reach pv) (λ i. rw (i, near l pv v e i)) (λ i. rw i)
farthest_is_plain l Hold v e = refl
farthest_is_plain l (Put x) v e = refl
farthest_is_plain l Automatic v e = refl
farthest_is_plain l (Target t r) v e = refl
farthest_is_plain l (Set k) v e = refl

-- ---- "In automatic, a sample further than jump from the last kept raw temperature is refused"

-- what no command but a sample changes
record Stays (l m : Loop) : Type 0 where
  settings : m.settings ≡ l.settings
  primed : m.primed ≡ l.primed
  raw : m.raw ≡ l.raw

step_stays : (l : Loop) (c : Command) → samples (c ∷ []) ≡ 0 → Stays l (step_of l c)
unfolding step_of samples
step_stays l (Sample pv) e = absurd (omega (arith, e))
step_stays l Hold e = record { settings = refl; primed = refl; raw = refl }
step_stays l (Put x) e = record { settings = refl; primed = refl; raw = refl }
step_stays l Automatic e =
    chosen (Stays l) l.automatic
    (λ _. record { settings = refl; primed = refl; raw = refl })
    (λ _. record { settings = refl; primed = refl; raw = refl })
step_stays l (Target t r) e = record { settings = refl; primed = refl; raw = refl }
step_stays l (Set k) e =
    chosen (Stays l) (eqb l.set (plus k))
    (λ _. record { settings = refl; primed = refl; raw = refl })
    (λ _. record { settings = refl; primed = refl; raw = refl })

one_more : (c : Command) (cs : List Command) → samples (c ∷ cs) ≡ samples (c ∷ []) + samples cs
unfolding samples
one_more (Sample pv) cs = omega arith
one_more Hold cs = omega arith
one_more (Put x) cs = omega arith
one_more Automatic cs = omega arith
one_more (Target t r) cs = omega arith
one_more (Set k) cs = omega arith

all_stay : (l : Loop) (cs : List Command) → samples cs ≡ 0 → Stays l (obeyed l cs)
unfolding after
all_stay l [] e = record { settings = refl; primed = refl; raw = refl }
all_stay l (c ∷ cs) e =
    let n = one_more c cs in
    let s = step_stays l c (omega (arith, n, e)) in
    let t = all_stay (step_of l c) cs (omega (arith, n, e)) in
    record { settings = t.settings ∙ s.settings; primed = t.primed ∙ s.primed; raw = t.raw ∙ s.raw }

-- in automatic a primed loop takes a sample no further than jump from the last kept raw temperature, whatever other commands came since
pub taken_is_near : (l : Loop) (between : List Command) (pv : ℤ) → l.primed ≡ true → samples between ≡ 0 →
    (obeyed l between).automatic ≡ true → refusal_of (obeyed l between) (Sample pv) ≡ 0 → pos (size (pv -ℤ l.raw)) ≤ℤ l.settings.jump
taken_is_near l between pv p n a e =
    let m = obeyed l between in
    let s = all_stay l between n in
    let f = taken_near (guard_of m) pv a (s.primed ∙ p) (sym (sample_code m pv) ∙ e) in
    let j = ap (λ (x : Settings). x.jump) s.settings in
    let h : pos (size (pv -ℤ m.raw)) ≤ℤ m.settings.jump = le_out (lt_no m.settings.jump (pos (size (pv -ℤ m.raw))) f) in
    rw (s.raw, j) at h

-- so two samples one after the other, the second taken in automatic, are never further apart than jump
pub neighbours : (l : Loop) (a b : ℤ) (between : List Command) → samples between ≡ 0 →
    (obeyed (step_of l (Sample a)) between).automatic ≡ true → refusal_of (obeyed (step_of l (Sample a)) between) (Sample b) ≡ 0 →
    pos (size (b -ℤ a)) ≤ℤ l.settings.jump
unfolding step_of sample_of acted_of
neighbours l a b between n m e = taken_is_near (step_of l (Sample a)) between b refl n m e

-- ---- numbers

-- the codes of commands given one after the other to a fresh loop of settings C with this mean and jump
abbrev codes : ℤ → ℤ → List Command → List ℕ
codes mean jump cs = each (λ l c. (law_of l c).state) (λ l c. (law_of l c).code) (fresh_of (settings_with mean jump)) cs

-- after a real step every sample is 19, until hold, a sample, automatic; a wild reading in manual is kept, and a transfer sample is
-- tested
pub way_out :
    codes (pos 1) (pos 10)
    (Automatic ∷ Sample (pos 480) ∷ Sample (pos 600) ∷ Sample (pos 601) ∷ Hold ∷ Sample (pos 600) ∷ Automatic ∷ Sample (pos 611) ∷ Sample (pos 590) ∷ [])
    ≡ 0 ∷ 0 ∷ 19 ∷ 19 ∷ 0 ∷ 0 ∷ 0 ∷ 19 ∷ 0 ∷ []
unfolding rounded rows_of in_table fresh_window taken mean_at window_ok valid lesser greater limited ramped filtered derivative sensed_of clamped back_calculated integrated acted_of code_of sample_of step_of refusal_of law_of each
way_out = refl

-- it is the raw temperature that counts, of which the mean over two would be 485
pub raw_counts : codes (pos 2) (pos 10) (Automatic ∷ Sample (pos 480) ∷ Sample (pos 490) ∷ Sample (pos 500) ∷ Sample (pos 489) ∷ []) ≡ 0 ∷ 0 ∷ 0 ∷ 0 ∷ 19 ∷ []
unfolding rounded rows_of in_table fresh_window taken mean_at window_ok valid lesser greater limited ramped filtered derivative sensed_of clamped back_calculated integrated acted_of code_of sample_of step_of refusal_of law_of each
raw_counts = refl

-- a jump of 0 or of 2,000,001 breaks the state rules
pub jump_range :
    (valid (fresh_of (settings_with (pos 1) (pos 0))) ≡ false)
    × (valid (fresh_of (settings_with (pos 1) (pos 1))) ≡ true)
    × (valid (fresh_of (settings_with (pos 1) (pos 2000000))) ≡ true)
    × (valid (fresh_of (settings_with (pos 1) (pos 2000001))) ≡ false)
unfolding rows_of in_table fresh_window window_ok valid
jump_range = (refl, refl, refl, refl)
