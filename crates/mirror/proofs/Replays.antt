-- Mirrored replays: the same codes, places and counts, the outputs with the other sign.
use Prim.Native.Nat.{ℕ, ◌+◌}
use mathlib.Core.Path.{◌≡◌, refl, ap}
use mathlib.Core.List.{List, [], ◌∷◌, map, map-map}
use lib.Dec.{eqb}
use lib.IntN.{ℤ, neg_ℤ}
use lib.ListN.{length, length-map}
use Rattle.whole.proofs.Truth.{push}
use Rattle.command.specs.declared.Command.{Command}
use Rattle.command.specs.declared.Command.TheVariants.{Sample}
use Rattle.command.specs.Sequence.{each}
use Rattle.record.specs.Record.{guard_of}
use Rattle.memory.specs.Walk.{Delivery, Answer}
use Rattle.delivery.specs.declared.numbered.Numbered.{Numbered}
use Rattle.delivery.specs.Demand3.{answered, handed_back}
use Rattle.delivery.specs.Replay.{numbered, delivered_outputs, replay_refusal, replayed_of, written_of}
use Rattle.mirror.specs.Mirror.{Mirror, flip_temperature, flip_numbered, flip_delivery, flip_answer, flip_replayed}
use Rattle.mirror.proofs.Guards.{bad_mirror, first_mirror}
use Rattle.mirror.proofs.Plays.{filled_mirror}
use Rattle.mirror.proofs.Deliveries.{valid_of_mirror, after_mirror, answers_mirror}

numbered_mirror : (k : Mirror) (n : ℕ) (pvs : List ℤ) → numbered n (map (flip_temperature k) pvs) ≡ map (flip_delivery k) (numbered n pvs)
unfolding numbered
numbered_mirror k n [] = refl
numbered_mirror k n (pv ∷ pvs) =
    ap (λ (ds : List (Delivery Command)). record { number = n; command = Sample (flip_temperature k pv) } ∷ ds) (numbered_mirror k (n + 1) pvs)

module _ (k : Mirror) (s : Numbered) (first : ℕ) (pvs : List ℤ) where
  refusal_mirror : (room : ℕ) → replay_refusal (flip_numbered k s) first (map (flip_temperature k) pvs) room ≡ replay_refusal s first pvs room
  unfolding replay_refusal
  refusal_mirror room = rw (valid_of_mirror k s, first_mirror k (guard_of s.state) pvs, length-map pvs (flip_temperature k))

  pub replayed_mirror : (room : ℕ) → replayed_of (flip_numbered k s) first (map (flip_temperature k) pvs) room ≡ flip_replayed k (replayed_of s first pvs room)
  unfolding replayed_of
  replayed_mirror room =
      rw (refusal_mirror room, bad_mirror k (guard_of s.state) pvs, length-map pvs (flip_temperature k), numbered_mirror k first pvs, after_mirror k s (numbered first pvs))
      (push (flip_replayed k) (eqb (replay_refusal s first pvs room) 0) _ _)

  outputs_mirror : delivered_outputs (flip_numbered k s) first (map (flip_temperature k) pvs) ≡ map neg_ℤ (delivered_outputs s first pvs)
  outputs_mirror =
      let said = each handed_back answered s (numbered first pvs) in
      rw (numbered_mirror k first pvs, answers_mirror k s (numbered first pvs), map-map (λ (a : Answer ℤ). a.output) flip_answer said, map-map neg_ℤ (λ (a : Answer ℤ). a.output) said)

  -- what the output list holds afterwards, if it held the mirrored numbers before
  pub written_mirror : (out : List ℤ) →
      written_of (flip_numbered k s) first (map (flip_temperature k) pvs) (map neg_ℤ out) ≡ map neg_ℤ (written_of s first pvs out)
  unfolding written_of
  written_mirror out =
      rw (length-map out neg_ℤ, refusal_mirror (length out), outputs_mirror)
      (rw (filled_mirror (delivered_outputs s first pvs) out)
      (push (map neg_ℤ) (eqb (replay_refusal s first pvs (length out)) 0) _ _))
