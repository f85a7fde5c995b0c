-- 02, request 7, of the plain law. That each command is the definition's is the contract of `obey`; what is said here follows from it.
use mathlib.Core.Path.{◌≡◌, refl, sym, ap, ap₂, ◌∙◌}
use mathlib.Core.List.{List, [], ◌∷◌}
use mathlib.Core.Bool.{true, false}
use lib.Dec.{eqb}
use lib.IntN.{ℤ, pos}
use Rattle.whole.specs.Numbers.{plus}
use Rattle.whole.proofs.Truth.{push}
use Rattle.settings.specs.declared.Settings.{Settings}
use Rattle.settings.specs.Table.{farthest, rows_of}
use Rattle.settings.specs.Settings.{in_table}
use Rattle.settings.specs.SettingsC.{settings_with}
use Rattle.window.specs.Window.{fresh_window, taken, mean_at, window_ok}
use Rattle.window.proofs.Runs.{mean_one}
use Rattle.command.specs.declared.Command.{Command}
use Rattle.command.specs.declared.Command.TheVariants.{Sample, Hold, Put, Automatic, Target, Set}
use Rattle.command.specs.Sequence.{after, each}
use Rattle.record.specs.declared.Loop.{Loop}
use Rattle.record.specs.Record.{fresh_of, valid}
use Rattle.record.specs.Refusals.{refusal_of}
use Rattle.pid.specs.Units.{rounded}
use Rattle.pid.specs.Sample.{lesser, greater, limited, ramped, filtered, derivative, sensed_of, moved_of, clamped, back_calculated, integrated, acted_of}
use Rattle.pid.specs.Law.{with_moving, fixed_of, moving_of, sample_of, step_of}
use Rattle.pid.specs.Plain.{plain_sample_of, plain_step_of, windowless}
use Rattle.pid.specs.Run.{obeyed}
use Rattle.pid.proofs.Obeys.{settings_stay}

-- ---- with mean 1 the law is the law without it

-- one command: it is refused alike, and does the same but to the window
pub one_refused : (l : Loop) (c : Command) → refusal_of (windowless l) c ≡ refusal_of l c
unfolding refusal_of
one_refused l (Sample pv) = refl
one_refused l Hold = refl
one_refused l (Put x) = refl
one_refused l Automatic = refl
one_refused l (Target t r) = refl
one_refused l (Set k) = refl

one_step : (l : Loop) (c : Command) → l.settings.mean ≡ pos 1 → plain_step_of (windowless l) c ≡ windowless (step_of l c)
unfolding plain_step_of plain_sample_of step_of sample_of
one_step l (Sample pv) e =
    let r = ap (λ (z : ℤ). mean_at (plus z) l.window pv) e ∙ mean_one l.window pv in
    ap (λ (z : ℤ). with_moving l fresh_window pv (moved_of (fixed_of l) (moving_of l) z)) (sym r)
one_step l Hold e = refl
one_step l (Put x) e = refl
one_step l Automatic e = push windowless l.automatic _ _
one_step l (Target t r) e = refl
one_step l (Set k) e = push windowless (eqb l.set (plus k)) _ _

still_one : (l : Loop) (c : Command) → l.settings.mean ≡ pos 1 → (step_of l c).settings.mean ≡ pos 1
still_one l c e = ap (λ (s : Settings). s.mean) (settings_stay l c) ∙ e

-- any list of commands: all that the loop remembers but the window is what 01's law without the mean gives, I, y and w among it
pub one_is_plain : (l : Loop) (cs : List Command) → l.settings.mean ≡ pos 1 → after plain_step_of (windowless l) cs ≡ windowless (obeyed l cs)
unfolding after
one_is_plain l [] e = refl
one_is_plain l (c ∷ cs) e =
    ap (λ (m : Loop). after plain_step_of m cs) (one_step l c e) ∙ one_is_plain (step_of l c) cs (still_one l c e)

-- and the output after each
pub one_outputs : (l : Loop) (cs : List Command) → l.settings.mean ≡ pos 1 →
    each plain_step_of (λ m c. (plain_step_of m c).u) (windowless l) cs ≡ each step_of (λ m c. (step_of m c).u) l cs
unfolding each
one_outputs l [] e = refl
one_outputs l (c ∷ cs) e =
    let s = one_step l c e in
    ap₂ (λ (u : ℤ) (us : List ℤ). u ∷ us) (ap (λ (m : Loop). m.u) s)
    (ap (λ (m : Loop). each plain_step_of (λ m c. (plain_step_of m c).u) m cs) s ∙ one_outputs (step_of l c) cs (still_one l c e))

-- ---- numbers

-- settings C with a mean over the last m
abbrev meaned : ℤ → Settings
meaned m = settings_with m (pos farthest)

abbrev outputs : ℤ → List ℤ
outputs m =
    each step_of (λ l c. (step_of l c).u) (fresh_of (meaned m)) (Automatic ∷ Sample (pos 480) ∷ Sample (pos 480) ∷ Sample (pos 470) ∷ [])

-- "C with mean=2, automatic, 480, 480, 470: 100, 105, 116"; with mean 1 the last is 123
pub c_with_mean_2 : (outputs (pos 2) ≡ pos 100 ∷ pos 100 ∷ pos 105 ∷ pos 116 ∷ []) × (outputs (pos 1) ≡ pos 100 ∷ pos 100 ∷ pos 105 ∷ pos 123 ∷ [])
unfolding rounded rows_of in_table fresh_window taken mean_at window_ok valid lesser greater limited ramped filtered derivative sensed_of clamped back_calculated integrated acted_of sample_of step_of refusal_of each
c_with_mean_2 = (refl, refl)

-- a mean of 0 or of 129 breaks the state rules
pub mean_range : (valid (fresh_of (meaned (pos 0))) ≡ false) × (valid (fresh_of (meaned (pos 128))) ≡ true) × (valid (fresh_of (meaned (pos 129))) ≡ false)
unfolding rows_of in_table fresh_window window_ok valid
mean_range = (refl, refl, refl)
