-- A list of samples under the plain law, with a list whose front takes the outputs: what 01's replay stands on.
use Rattle.std.specs.Prelude.{ℕ, Bool, cond, ◌||◌, List, eqb, ltb, ℤ, length}
use Rattle.whole.specs.Numbers.{plus}
use Rattle.window.specs.Means.{means_of, front_filled}
use Rattle.temperature.specs.Temperature.{first_bad, first_code, bad_told}
use Rattle.command.specs.declared.Command.TheVariants.{Sample}
use Rattle.record.specs.declared.Loop.{Loop}
use Rattle.record.specs.Record.{guard_of, valid}
use Rattle.pid.specs.Numbers.{Fixed}
use Rattle.pid.specs.Numbers.{Moving}
use Rattle.pid.specs.declared.play.Played.{Played as Playing}
use Rattle.pid.specs.Sample.{moved_of}
use Rattle.pid.specs.Law.{step_of}
use Rattle.command.specs.Sequence.{after, each}

-- ---- the samples, each given once, in order

abbrev pub sampled : Loop → ℤ → Loop
sampled l pv = step_of l (Sample pv)

-- the loop after them, and the output after each
abbrev pub after_samples : Loop → List ℤ → Loop
after_samples l samples = after sampled l samples

abbrev pub outputs_of : Loop → List ℤ → List ℤ
outputs_of l samples = each sampled (λ m pv. (sampled m pv).u) l samples

-- ---- what is refused

-- "10 [..] 12 [..] then 4", or 19: of a replay's order, what the law itself tests. room is the output list's length
unfoldable pub play_refusal : Loop → List ℤ → ℕ → ℕ
play_refusal l samples room = cond (valid l) (cond (ltb room (length samples)) 12 (first_code (guard_of l) samples)) 10

-- ---- what comes back

-- what comes back: a code, the place of the sample that it speaks of, and the loop
pub record Played : Type 0 where
  pub code : ℕ
  pub place : ℕ
  pub state : Loop

abbrev pub played_told : Playing → Played
played_told p = record { code = (bad_told 0 p.outcome).code; place = (bad_told 0 p.outcome).place; state = p.state }

-- "On a refusal neither record nor list changes"
abbrev pub refused_of : Loop → ℕ → ℕ → Played
refused_of l code place = record { code = code; place = place; state = l }

-- "for every code but 4 the place is 0", and 19 has its place as 4 has
abbrev pub has_place : ℕ → Bool
has_place code = eqb code 4 || eqb code 19

abbrev pub placed : ℕ → ℕ → ℕ
placed code place = cond (has_place code) place 0

-- "the earliest bad sample is reported with its code and place" (02, request 8)
unfoldable pub played_of : Loop → List ℤ → ℕ → Played
played_of l samples room =
    let code = play_refusal l samples room in
    cond (eqb code 0) (record { code = 0; place = 0; state = after_samples l samples }) (refused_of l code (placed code (first_bad (guard_of l) samples)))

-- what the output list holds afterwards
unfoldable pub wrote_of : Loop → List ℤ → List ℤ → List ℤ
wrote_of l samples out = cond (eqb (play_refusal l samples (length out)) 0) (front_filled (outputs_of l samples) out) out

-- ---- what the law reads of the samples, and what it makes of that on what moves alone

abbrev pub reads_of : Loop → List ℤ → List ℤ
reads_of l samples = means_of (plus l.settings.mean) l.window samples

abbrev pub moved_after : Fixed → Moving → List ℤ → Moving
moved_after f m read = after (moved_of f) m read

abbrev pub moved_outputs : Fixed → Moving → List ℤ → List ℤ
moved_outputs f m read = each (moved_of f) (λ n pv. (moved_of f n pv).u) m read
