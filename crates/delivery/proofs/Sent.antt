-- What a replay leaves and writes.
use Prim.Native.Nat.{ℕ, suc, ◌+◌, ◌-◌, ◌≤◌}
use mathlib.Core.Path.{◌≡◌, refl, ap, subst, ◌∙◌}
use mathlib.Core.List.{List, [], ◌∷◌}
use native.Mathlib.Omega.{arith}
use lib.IntN.{ℤ, pos}
use lib.ListN.{length, drop, get_or, length-append, length-drop, length-map}
use lib.Seq.{get_or-append-add, get_or-drop}
use Rattle.window.specs.Means.{front_filled}
use Rattle.command.specs.Sequence.{each}
use Rattle.pid.proofs.Turns.{each_length}
use Rattle.memory.specs.Memory.{filled_of}
use Rattle.memory.specs.Walk.{Answer}
use Rattle.delivery.specs.declared.numbered.Numbered.{Numbered}
use Rattle.delivery.specs.Demand3.{handed_back, answered}
use Rattle.delivery.specs.Replay.{numbered, record_after, delivered_outputs, replay_refusal}
use Rattle.delivery.proofs.Ended.{all_valid}
use Rattle.delivery.proofs.ReplayOrder.{Accepted, code_1}
use Rattle.delivery.proofs.Replays.{record_is}

pub numbered_length : (n : ℕ) (pvs : List ℤ) → length (numbered n pvs) ≡ length pvs
unfolding numbered
numbered_length n [] = refl
numbered_length n (pv ∷ pvs) = ap suc (numbered_length (n + 1) pvs)

pub outputs_length : (s : Numbered) (first : ℕ) (pvs : List ℤ) → length (delivered_outputs s first pvs) ≡ length pvs
outputs_length s first pvs =
    length-map (each handed_back answered s (numbered first pvs)) (λ (a : Answer ℤ). a.output) ∙ each_length handed_back answered s (numbered first pvs) ∙ numbered_length first pvs

later : (vs out : List ℤ) (i : ℕ) → length vs ≤ i → get_or (front_filled vs out) i (pos 0) ≡ get_or out i (pos 0)
later vs out i h =
    subst (λ (j : ℕ). get_or (front_filled vs out) j (pos 0) ≡ get_or out j (pos 0)) (there (length vs) i h)
    (get_or-append-add vs (drop (length vs) out) (i - length vs) (pos 0) ∙ get_or-drop (length vs) out (i - length vs) (pos 0))
  where
    there : (n i : ℕ) → n ≤ i → n + (i - n) ≡ i
    there n i h = omega arith

module _ (s : Numbered) (first : ℕ) (pvs out : List ℤ) where
  pub front_length : length pvs ≤ length out → length (front_filled (delivered_outputs s first pvs) out) ≡ length out
  front_length h = length-append (delivered_outputs s first pvs) _ ∙ rw (length-drop, outputs_length s first pvs) (omega arith)

  pub front_later : (i : ℕ) → length pvs ≤ i → get_or (front_filled (delivered_outputs s first pvs) out) i (pos 0) ≡ get_or out i (pos 0)
  front_later i h = later (delivered_outputs s first pvs) out i (rw (outputs_length s first pvs) h)

-- sent again whole
pub again_old : (s : Numbered) (first : ℕ) (pvs : List ℤ) (room room' : ℕ) → Accepted s first pvs room → 1 ≤ length pvs →
    replay_refusal (record_after s first pvs) first pvs room' ≡ 1
unfolding filled_of
again_old s first pvs room room' a h =
    let n : (record_after s first pvs).memory.number ≡ s.memory.number + length pvs = rw a.next (ap (λ (x : Numbered). x.memory.number) (record_is s pvs a.rules a.good)) in
    let f = a.next in
    code_1 (record_after s first pvs) first pvs room' (all_valid s (numbered first pvs) a.rules) (omega arith)
