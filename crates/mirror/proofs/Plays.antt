-- Mirrored lists of samples under the plain law: the same code and place, the outputs with the other sign.
use Prim.Native.Nat.{ℕ}
use mathlib.Core.Path.{◌≡◌, refl, ap, ◌∙◌}
use mathlib.Core.Bool.{true}
use mathlib.Core.List.{List, [], ◌∷◌, map}
use borrow.Author.Tests.{eqb-true}
use lib.Dec.{eqb}
use lib.IntN.{ℤ, neg_ℤ}
use lib.ListN.{length, length-map}
use Rattle.whole.proofs.Truth.{by_test}
use Rattle.whole.proofs.Lists.{map_join, map_drop}
use Rattle.temperature.specs.Temperature.{first_code}
use Rattle.window.specs.Means.{front_filled}
use Rattle.command.specs.declared.Command.TheVariants.{Sample}
use Rattle.command.specs.Sequence.{after, each}
use Rattle.record.specs.declared.Loop.{Loop}
use Rattle.record.specs.Record.{guard_of, valid}
use Rattle.record.proofs.Rules.{holds_of}
use Rattle.pid.specs.Play.{sampled, after_samples, outputs_of, play_refusal, played_of, wrote_of}
use Rattle.pid.proofs.Kept.{step_valid}
use Rattle.pid.proofs.Plays.{good_first, playable}
use Rattle.mirror.specs.Mirror.{Mirror, flip_temperature, flip_loop, flip_played}
use Rattle.mirror.proofs.Guards.{bad_mirror, first_mirror}
use Rattle.mirror.proofs.Loops.{valid_mirror, step_mirror}

-- the front of a list that is filled
pub filled_mirror : (us out : List ℤ) → front_filled (map neg_ℤ us) (map neg_ℤ out) ≡ map neg_ℤ (front_filled us out)
filled_mirror us out = rw (length-map us neg_ℤ, map_drop neg_ℤ, ← map_join neg_ℤ)

-- ---- good samples, from a loop that keeps its rules

sampled_mirror : (k : Mirror) (l : Loop) (pv : ℤ) → valid l ≡ true → sampled (flip_loop k l) (flip_temperature k pv) ≡ flip_loop k (sampled l pv)
sampled_mirror k l pv v = step_mirror k l (holds_of l v) (Sample pv)

after_mirror : (k : Mirror) (l : Loop) (pvs : List ℤ) → valid l ≡ true → first_code (guard_of l) pvs ≡ 0 →
    after_samples (flip_loop k l) (map (flip_temperature k) pvs) ≡ flip_loop k (after_samples l pvs)
unfolding after
after_mirror k l [] v g = refl
after_mirror k l (pv ∷ pvs) v g =
    let h = good_first l pv pvs g in
    ap (λ (m : Loop). after_samples m (map (flip_temperature k) pvs)) (sampled_mirror k l pv v)
    ∙ after_mirror k (sampled l pv) pvs (step_valid l (Sample pv) v h.0) h.1

outputs_mirror : (k : Mirror) (l : Loop) (pvs : List ℤ) → valid l ≡ true → first_code (guard_of l) pvs ≡ 0 →
    outputs_of (flip_loop k l) (map (flip_temperature k) pvs) ≡ map neg_ℤ (outputs_of l pvs)
unfolding each
outputs_mirror k l [] v g = refl
outputs_mirror k l (pv ∷ pvs) v g =
    let h = good_first l pv pvs g in
    rw (sampled_mirror k l pv v)
    (ap (λ (us : List ℤ). neg_ℤ (sampled l pv).u ∷ us)
    (outputs_mirror k (sampled l pv) pvs (step_valid l (Sample pv) v h.0) h.1))

-- ---- any list, from any record

module _ (k : Mirror) (l : Loop) (pvs : List ℤ) where
  refusal_mirror : (room : ℕ) → play_refusal (flip_loop k l) (map (flip_temperature k) pvs) room ≡ play_refusal l pvs room
  unfolding play_refusal
  refusal_mirror room = rw (valid_mirror k l, first_mirror k (guard_of l) pvs, length-map pvs (flip_temperature k))

  pub played_mirror : (room : ℕ) → played_of (flip_loop k l) (map (flip_temperature k) pvs) room ≡ flip_played k (played_of l pvs room)
  unfolding played_of
  played_mirror room =
      rw (refusal_mirror room, bad_mirror k (guard_of l) pvs)
      (by_test (eqb (play_refusal l pvs room) 0)
      (λ e. let p = playable l pvs room (eqb-true _ 0 e) in rw (e, after_mirror k l pvs p.rules p.good))
      (λ e. rw e))

  pub wrote_mirror : (out : List ℤ) → wrote_of (flip_loop k l) (map (flip_temperature k) pvs) (map neg_ℤ out) ≡ map neg_ℤ (wrote_of l pvs out)
  unfolding wrote_of
  wrote_mirror out =
      rw (length-map out neg_ℤ, refusal_mirror (length out))
      (by_test (eqb (play_refusal l pvs (length out)) 0)
      (λ e. let p = playable l pvs (length out) (eqb-true _ 0 e) in rw (e, outputs_mirror k l pvs p.rules p.good) (filled_mirror (outputs_of l pvs) out))
      (λ e. rw e))
