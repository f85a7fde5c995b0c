-- A list of samples under the plain law: what a replay stands on. The contract of `play` says it by its definition
-- (specs/Play.antt); here is what follows from it.
use Prim.Native.Nat.{ℕ}
use Rattle.std.proofs.Common.{Result}
use Rattle.std.specs.Bool.{⊤}
use mathlib.Core.Path.{◌≡◌, sym, ap, ap₂}
use mathlib.Core.Bool.{true}
use mathlib.Core.List.{List, [], ◌∷◌, map}
use borrow.Author.Tests.{eqb-true}
use lib.Dec.{eqb}
use lib.IntN.{ℤ}
use lib.ListN.{length}
use Rattle.whole.proofs.Truth.{by_test}
use Rattle.temperature.specs.declared.Bad.{Bad as Earliest}
use Rattle.temperature.specs.Temperature.{Bad, first_code}
use Rattle.temperature.proofs.promises.Jump.{bad_once}
use Rattle.command.specs.declared.Command.TheVariants.{Sample}
use Rattle.command.specs.Sequence.{after}
use Rattle.record.specs.declared.Loop.{Loop}
use Rattle.record.specs.Record.{guard_of, valid}
use Rattle.pid.specs.declared.play.Played.{Played as Playing}
use Rattle.pid.specs.Play.{Played, played_told, sampled, after_samples, play_refusal, played_of, wrote_of}
use Rattle.pid.specs.Run.{obeyed}
use Rattle.pid.proofs.Kept.{step_valid}
use Rattle.pid.proofs.Plays.{after_commands, good_first, playable}

-- the samples are given as commands, each once, in order
pub as_commands : (l : Loop) (samples : List ℤ) → after_samples l samples ≡ obeyed l (map Sample samples)
as_commands l samples = sym (after_commands l samples)

all_valid : (l : Loop) (samples : List ℤ) → valid l ≡ true → first_code (guard_of l) samples ≡ 0 → valid (after_samples l samples) ≡ true
unfolding after
all_valid l [] v g = v
all_valid l (pv ∷ pvs) v g =
    let h = good_first l pv pvs g in
    all_valid (sampled l pv) pvs (step_valid l (Sample pv) v h.0) h.1

-- the record that comes back keeps the state rules
pub again : (l : Loop) (samples out : List ℤ) → valid l ≡ true → valid (played_of l samples (length out)).state ≡ true
unfolding played_of
again l samples out v =
    by_test (eqb (play_refusal l samples (length out)) 0)
    (λ e. rw e (all_valid l samples v (playable l samples (length out) (eqb-true _ 0 e)).good))
    (λ e. rw e v)

-- "On a refusal neither record nor list changes"
pub refused_back : (l : Loop) (samples out : List ℤ) → ((played_of l samples (length out)).code ≡ 0 → ⊥) →
    ((played_of l samples (length out)).state ≡ l) × (wrote_of l samples out ≡ out)
unfolding played_of wrote_of
refused_back l samples out f =
    by_test (eqb (play_refusal l samples (length out)) 0)
    (λ e. absurd (f (rw e)))
    (λ e. (rw e, rw e))

-- What a played list tells leaves nothing of it out.
pub played_once : (a b : Playing) → played_told a ≡ played_told b → a ≡ b
played_once a b e =
    ap₂ (λ (o : Result ⊤ Earliest) (l : Loop). record { outcome = o; state = l })
    (bad_once 0 a.outcome b.outcome (ap₂ bad (ap (λ (p : Played). p.code) e) (ap (λ (p : Played). p.place) e)))
    (ap (λ (p : Played). p.state) e)
  where
    bad : ℕ → ℕ → Bad
    bad code place = record { code = code; place = place }
