-- 01's own numbers, computed by the definitions. Fine amounts are written as multiples of F = 65,536, or of F / 2.
use Prim.Native.Nat.{ℕ, ◌<◌, ◌≤◌}
use mathlib.Core.Path.{◌≡◌, refl}
use mathlib.Core.Bool.{true, false}
use mathlib.Core.List.{List, [], ◌∷◌}
use native.Mathlib.Omega.{arith}
use lib.IntN.{ℤ, pos, negsuc, ◌*ℤ◌}
use Rattle.whole.proofs.Parts.{yes_le, no_le}
use Rattle.command.specs.declared.Command.{Command}
use Rattle.command.specs.declared.Command.TheVariants.{Sample, Hold, Automatic, Target, Set}
use Rattle.record.specs.declared.Loop.{Loop}
use Rattle.record.specs.Units.{F, fine}
use Rattle.record.specs.Record.{fresh_of, valid}
use Rattle.record.specs.Refusals.{refusal_of}
use Rattle.pid.specs.Numbers.{Fixed}
use Rattle.pid.specs.Numbers.{Moving}
use Rattle.pid.specs.Units.{rounded}
use Rattle.settings.specs.Table.{rows_of}
use Rattle.settings.specs.Settings.{in_table}
use Rattle.temperature.specs.Temperature.{code_of}
use Rattle.window.specs.Window.{fresh_window, taken, mean_at, window_ok}
use Rattle.pid.specs.Law.{sample_of, step_of}
use Rattle.command.specs.Sequence.{after}
use Rattle.pid.specs.Run.{obeyed, accepted, switches, between, unbroken, shares, samples_to_target}
use Rattle.settings.specs.SettingsC.{settings_c}
use Rattle.pid.specs.Sample.{lesser, greater, limited, ramped, filtered, derivative, sensed_of, clamped, back_calculated, integrated, acted_of, moved_of}

-- "fine 32,767 gives 0, 32,768 gives 1" and, by request 3, "fine -32,768 now gives -1, and -32,767 gives 0"; 01's -32,769 stays -1
pub below_half : rounded (pos 32767) ≡ pos 0
unfolding rounded
below_half = refl

pub half : rounded (pos 32768) ≡ pos 1
unfolding rounded
half = refl

pub negative_below_half : rounded (negsuc 32766) ≡ pos 0
unfolding rounded
negative_below_half = refl

pub negative_half : rounded (negsuc 32767) ≡ negsuc 0
unfolding rounded
negative_half = refl

pub negative_above_half : rounded (negsuc 32768) ≡ negsuc 0
unfolding rounded
negative_above_half = refl

-- "so code 9 starts at 16" (02, request 5); numbers below 0 are 9 as they were
pub code_nine : (l : Loop) (k : ℕ) →
    (k < 16 → refusal_of l (Set (pos k)) ≡ 0) × (16 ≤ k → refusal_of l (Set (pos k)) ≡ 9) × (refusal_of l (Set (negsuc k)) ≡ 9)
unfolding refusal_of
code_nine l k = (
  λ h. rw (yes_le (pos 0) (pos k) (omega arith), yes_le (pos k) (pos 15) (omega (arith, h))),
  λ h. rw (yes_le (pos 0) (pos k) (omega arith), no_le (pos k) (pos 15) (omega (arith, h))),
  refl,
)

-- ---- "At the upper limit, ordinary sample 400, w = target = 500, y = 400"

-- settings C with a gain set of kp = 1 and ki = 1/4 in force, automatic, not pending
abbrev at_limit : ℤ → Fixed
at_limit kt = record {
  sign = pos 1;
  lo = pos 0;
  hi = pos 1000 *ℤ pos F;
  target = pos 500;
  rate = pos 50;
  automatic = true;
  kp = pos 65536;
  ki = pos 16384;
  kd = pos 0;
  alpha = pos 65536;
  kt = kt;
}

-- I in halves
abbrev before : ℤ → Moving
before i = record { w = pos 500; u = pos 1000; integral = i *ℤ pos 32768; y = pos 400 *ℤ pos F; primed = true; pending = false }

-- "set 0 with I = 900 gives u 1000, I 900; with 890 gives 1000, 900; with 950 gives 1000, 950. Set 2 with I = 900 gives 1000, 912.5"
pub limit_900 : moved_of (at_limit (pos 0)) (before (pos 1800)) (pos 400) ≡ before (pos 1800)
unfolding rounded lesser greater limited ramped filtered derivative sensed_of clamped back_calculated integrated acted_of
limit_900 = refl

pub limit_890 : moved_of (at_limit (pos 0)) (before (pos 1780)) (pos 400) ≡ before (pos 1800)
unfolding rounded lesser greater limited ramped filtered derivative sensed_of clamped back_calculated integrated acted_of
limit_890 = refl

pub limit_950 : moved_of (at_limit (pos 0)) (before (pos 1900)) (pos 400) ≡ before (pos 1900)
unfolding rounded lesser greater limited ramped filtered derivative sensed_of clamped back_calculated integrated acted_of
limit_950 = refl

pub limit_back : moved_of (at_limit (pos 32768)) (before (pos 1800)) (pos 400) ≡ before (pos 1825)
unfolding rounded lesser greater limited ramped filtered derivative sensed_of clamped back_calculated integrated acted_of
limit_back = refl

-- ---- what the theorems of demand 2 assume can be met

-- settings C, primed, automatic, transferred
abbrev warm : Loop
warm = obeyed (fresh_of settings_c) (Sample (pos 480) ∷ Automatic ∷ Sample (pos 480) ∷ [])

-- two ordinary samples within limits, with a set in force between them, move the integral by 5 and 5.5
abbrev two : List Command
two = Sample (pos 480) ∷ Set (pos 0) ∷ Sample (pos 478) ∷ []

pub run_met : (valid warm ≡ true) × (accepted warm two ≡ true) × (unbroken warm two ≡ true) × (shares warm two ≡ fine 10 50)
unfolding rounded rows_of in_table fresh_window taken mean_at window_ok valid lesser greater limited ramped filtered derivative sensed_of clamped back_calculated integrated acted_of code_of sample_of step_of refusal_of after accepted unbroken shares
run_met = (refl, refl, refl, refl)

-- from 500 to 800 by 50 takes six samples
abbrev aimed : Loop
aimed = step_of warm (Target (pos 800) (pos 50))

pub ramp_met : (valid aimed ≡ true) × (samples_to_target aimed ≡ 6)
unfolding rounded rows_of in_table fresh_window taken mean_at window_ok valid lesser greater limited ramped filtered derivative sensed_of clamped back_calculated integrated acted_of sample_of step_of refusal_of after
ramp_met = (refl, refl)

-- a hold, an automatic that leaves manual, and another set are switches; a target may stand before the first sample
pub switch_met : (switches warm Hold ≡ true) × (switches (fresh_of settings_c) Automatic ≡ true) × (switches warm (Set (pos 1)) ≡ true) × (between (Target (pos 800) (pos 50) ∷ []) ≡ true)
unfolding rounded rows_of in_table fresh_window taken mean_at window_ok valid lesser greater limited ramped filtered derivative sensed_of clamped back_calculated integrated acted_of sample_of step_of refusal_of after switches between
switch_met = (refl, refl, refl, refl)
