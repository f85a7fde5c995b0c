-- A list of samples under the plain law: it is done on what moves, and what is answered and written, code by code.
use Prim.Native.Nat.{ℕ, ◌<◌, ◌≤◌}
use mathlib.Core.Path.{◌≡◌, refl, sym, ap, ◌∙◌}
use mathlib.Core.Bool.{true, false}
use mathlib.Core.List.{List, [], ◌∷◌, map}
use borrow.Author.Tests.{eq-eqb, eqb-true, eqb-false, ne_eqb, lt-ltb, le-ltb, ltb-false}
use lib.Dec.{eqb, ltb}
use lib.IntN.{ℤ, pos}
use lib.ListN.{length, take, get_or}
use Rattle.whole.specs.Numbers.{plus}
use Rattle.whole.proofs.Truth.{by_test, zero_if, zero_else}
use Rattle.window.specs.declared.Window.{Window}
use Rattle.window.specs.Window.{taken, mean_at}
use Rattle.temperature.specs.declared.Guard.{Guard}
use Rattle.temperature.specs.Temperature.{code_of, past, first_bad, first_code, ranged, raw_after}
use Rattle.temperature.proofs.Earliest.{code_none, bad_on, bad_first, either_bad}
use Rattle.temperature.proofs.Ranged.{all_ranged}
use Rattle.window.proofs.Good.{means_ranged}
use Rattle.window.specs.Means.{after_all, means_of, front_filled}
use Rattle.command.specs.declared.Command.TheVariants.{Sample}
use Rattle.record.specs.declared.Loop.{Loop}
use Rattle.record.specs.Record.{guard_of, valid}
use Rattle.record.specs.Refusals.{refusal_of}
use Rattle.record.proofs.Rules.{holds_of}
use Rattle.record.proofs.Refused.{sample_code}
use Rattle.pid.specs.Numbers.{Moving}
use Rattle.pid.specs.Sample.{acted_of, moved_of}
use Rattle.pid.specs.Law.{with_moving, fixed_of, sample_of, step_of}
use Rattle.command.specs.Sequence.{after, each}
use Rattle.command.proofs.Sequences.{after_through}
use Rattle.pid.specs.Play.{Played, sampled, after_samples, outputs_of, play_refusal, refused_of, placed, played_of, wrote_of, reads_of, moved_after, moved_outputs}
use Rattle.pid.proofs.Turns.{each_length}

-- ---- the law's samples are done on the window and on what moves

module _ (l : Loop) where
  -- the mean that the law reads after a window
  abbrev read : Window → ℤ → ℤ
  read w pv = mean_at (plus l.settings.mean) w pv

  pub after_moved : (w : Window) (raw : ℤ) (m : Moving) (pvs : List ℤ) →
      after_samples (with_moving l w raw m) pvs ≡ with_moving l (after_all w pvs) (raw_after raw pvs) (moved_after (fixed_of l) m (means_of (plus l.settings.mean) w pvs))
  unfolding after each step_of sample_of raw_after
  after_moved w raw m [] = refl
  after_moved w raw m (pv ∷ pvs) = after_moved (taken w pv) pv (moved_of (fixed_of l) m (read w pv)) pvs

  pub outputs_moved : (w : Window) (raw : ℤ) (m : Moving) (pvs : List ℤ) →
      outputs_of (with_moving l w raw m) pvs ≡ moved_outputs (fixed_of l) m (means_of (plus l.settings.mean) w pvs)
  unfolding each step_of sample_of
  outputs_moved w raw m [] = refl
  outputs_moved w raw m (pv ∷ pvs) =
      ap (λ (us : List ℤ). (moved_of (fixed_of l) m (read w pv)).u ∷ us) (outputs_moved (taken w pv) pv (moved_of (fixed_of l) m (read w pv)) pvs)

-- what the law reads of good samples lies in range
pub reads_ranged : (l : Loop) (pvs : List ℤ) → valid l ≡ true → first_code (guard_of l) pvs ≡ 0 → ranged (reads_of l pvs) ≡ true
reads_ranged l pvs v g = means_ranged (plus l.settings.mean) l.window pvs (holds_of l v).window (all_ranged (guard_of l) pvs g)

-- after a sample the next is held against it
guard_past : (l : Loop) (pv : ℤ) → guard_of (sampled l pv) ≡ past (guard_of l) pv
unfolding step_of sample_of acted_of
guard_past l pv = refl

-- of good samples the law takes the first, and after it the others are good
pub good_first : (l : Loop) (pv : ℤ) (pvs : List ℤ) → first_code (guard_of l) (pv ∷ pvs) ≡ 0 →
    (refusal_of l (Sample pv) ≡ 0) × (first_code (guard_of (sampled l pv)) pvs ≡ 0)
good_first l pv pvs e =
    let g = code_none (guard_of l) pv pvs e in
    (sample_code l pv ∙ g.0, ap (λ (x : Guard). first_code x pvs) (guard_past l pv) ∙ g.1)

pub reads_length : (l : Loop) (pvs : List ℤ) → length (reads_of l pvs) ≡ length pvs
reads_length l pvs = each_length taken (mean_at (plus l.settings.mean)) l.window pvs

-- after the samples before it, the law refuses the earliest bad one with its code
pub bad_after : (l : Loop) (pvs : List ℤ) → (first_code (guard_of l) pvs ≡ 0 → ⊥) →
    refusal_of (after_samples l (take (first_bad (guard_of l) pvs) pvs)) (Sample (get_or pvs (first_bad (guard_of l) pvs) (pos 0))) ≡ first_code (guard_of l) pvs
unfolding after first_code
bad_after l [] h = absurd (h refl)
bad_after l (pv ∷ pvs) h =
    let g = guard_of l in
    by_test (eqb (code_of g pv) 0)
    (λ t. let b = bad_on g pv pvs (eqb-true (code_of g pv) 0 t) in
    let n = guard_past l pv in
    let e = ap (λ (x : Guard). first_code x pvs) n in
    let f = ap (λ (x : Guard). first_bad x pvs) n in
    rw (b.0, ← f) (bad_after (sampled l pv) pvs (λ z. h (b.1 ∙ sym e ∙ z)) ∙ e ∙ sym b.1))
    (λ t. let b = bad_first g pv pvs (eqb-false (code_of g pv) 0 t) in rw b.0 (sample_code l pv ∙ sym b.1))

-- given as commands, they do the same
pub after_commands : (l : Loop) (pvs : List ℤ) → after step_of l (map Sample pvs) ≡ after_samples l pvs
after_commands l pvs = after_through (λ (m : Loop). m) Sample sampled step_of (λ _ _. refl) l pvs

pub outputs_length : (l : Loop) (pvs : List ℤ) → length (outputs_of l pvs) ≡ length pvs
outputs_length l pvs = each_length sampled (λ m pv. (sampled m pv).u) l pvs

-- ---- the order

module _ (l : Loop) (pvs : List ℤ) (room : ℕ) where
  pub code_10 : valid l ≡ false → play_refusal l pvs room ≡ 10
  unfolding play_refusal
  code_10 v = rw v

  module _ (v : valid l ≡ true) where
    pub code_12 : room < length pvs → play_refusal l pvs room ≡ 12
    unfolding play_refusal
    code_12 h = rw (v, lt-ltb room (length pvs) h)

    module _ (long : length pvs ≤ room) where
      -- 4 or 19, and 0 where none is bad
      pub code_bad : play_refusal l pvs room ≡ first_code (guard_of l) pvs
      unfolding play_refusal
      code_bad = rw (v, le-ltb room (length pvs) long)

-- where a sample is bad the code is one that has its place
pub bad_placed : (g : Guard) (pvs : List ℤ) → (first_code g pvs ≡ 0 → ⊥) → placed (first_code g pvs) (first_bad g pvs) ≡ first_bad g pvs
bad_placed g pvs h = by_test (eqb (first_code g pvs) 4)
    (λ e. rw e)
    (λ e. rw (e, eq-eqb (first_code g pvs) 19 (either_bad g pvs h (eqb-false (first_code g pvs) 4 e))))

module _ (l : Loop) (pvs out : List ℤ) where
  -- what is answered and what is written
  abbrev pub Plays : Played → List ℤ → Type 0
  Plays r written = (r ≡ played_of l pvs (length out)) × (written ≡ wrote_of l pvs out)

  pub plays_refused : (code : ℕ) → play_refusal l pvs (length out) ≡ code → (code ≡ 0 → ⊥) →
      Plays (refused_of l code (placed code (first_bad (guard_of l) pvs))) out
  unfolding played_of wrote_of
  plays_refused code e z = (rw (e, ne_eqb code 0 z), rw (e, ne_eqb code 0 z))

  pub plays_done : play_refusal l pvs (length out) ≡ 0 →
      Plays (record { code = 0; place = 0; state = after_samples l pvs }) (front_filled (outputs_of l pvs) out)
  unfolding played_of wrote_of
  plays_done e = (rw e, rw e)

-- what an accepted list has
pub record Playable (l : Loop) (pvs : List ℤ) (room : ℕ) : Type 0 where
  pub rules : valid l ≡ true
  pub long : length pvs ≤ room
  pub good : first_code (guard_of l) pvs ≡ 0

pub playable : (l : Loop) (pvs : List ℤ) (room : ℕ) → play_refusal l pvs room ≡ 0 → Playable l pvs room
unfolding play_refusal
playable l pvs room e =
    let v = zero_if (valid l) _ 9 e in
    let r = zero_else (ltb room (length pvs)) 11 _ v.1 in
    record { rules = v.0; long = ltb-false room (length pvs) r.0; good = r.1 }

-- what the answer of a list tells
module _ (l : Loop) (pvs out : List ℤ) where
  abbrev code : ℕ
  code = play_refusal l pvs (length out)

  -- of one that is refused
  pub record Refused : Type 0 where
    pub refusal : play_refusal l pvs (length out) ≡ (played_of l pvs (length out)).code
    pub place : (played_of l pvs (length out)).place ≡ placed (played_of l pvs (length out)).code (first_bad (guard_of l) pvs)
    pub list : wrote_of l pvs out ≡ out

  pub played_refused : ((played_of l pvs (length out)).code ≡ 0 → ⊥) → Refused
  unfolding played_of wrote_of
  played_refused f =
      by_test (eqb code 0)
      (λ e. absurd (f (rw e)))
      (λ e. record { refusal = rw e; place = rw e; list = rw e })

  -- of one that is done
  pub record Done : Type 0 where
    pub refusal : play_refusal l pvs (length out) ≡ 0
    pub state : (played_of l pvs (length out)).state ≡ after_samples l pvs
    pub list : wrote_of l pvs out ≡ front_filled (outputs_of l pvs) out

  pub played_done : (played_of l pvs (length out)).code ≡ 0 → Done
  unfolding played_of wrote_of
  played_done z =
      by_test (eqb code 0)
      (λ e. record { refusal = eqb-true code 0 e; state = rw e; list = rw e })
      (λ e. absurd (eqb-false code 0 e (rw e at z)))
