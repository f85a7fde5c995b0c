-- The way of w to its target: each sample takes the rate off the distance, until nothing is left.
use Prim.Native.Nat.{ℕ, suc, ◌*◌, ◌-◌, ◌<◌, ◌≤◌}
use mathlib.Core.Path.{◌≡◌, refl, sym, ◌∙◌}
use mathlib.Core.Bool.{true}
use mathlib.Core.List.{List, [], ◌∷◌}
use native.Mathlib.Omega.{arith}
use lib.Dec.{eqb}
use lib.IntN.{ℤ, pos, ◌+ℤ◌, ◌-ℤ◌}
use lib.Signed.{lt_z, ◌≤ℤ◌}
use Rattle.whole.specs.Numbers.{plus, size}
use Rattle.whole.proofs.Truth.{never, chosen}
use Rattle.whole.proofs.Parts.{zs, no_minus, no_plus, inside_yes}
use Rattle.whole.proofs.Lin.{Lin, at, lins}
use Rattle.command.specs.declared.Command.{Command}
use Rattle.command.specs.declared.Command.TheVariants.{Sample, Hold, Put, Automatic, Target, Set}
use Rattle.record.proofs.Ceiling.{enough, short}
use Rattle.record.specs.declared.Loop.{Loop}
use Rattle.record.specs.Record.{valid}
use Rattle.record.proofs.Rules.{holds_of}
use Rattle.pid.specs.Sample.{lesser, ramped, sensed_of, acted_of}
use Rattle.pid.specs.Law.{sample_of, step_of}
use Rattle.command.specs.Sequence.{after}
use Rattle.pid.specs.Run.{obeyed, no_target, samples, distance, samples_to_target}

-- one sample
pub ramped_left : (w t r : ℤ) → pos 0 ≤ℤ r → size (t -ℤ ramped w t r) ≡ size (t -ℤ w) - plus r
unfolding ramped lesser
ramped_left w t r h =
    let W = at w in
    let T = at t in
    let R = at r in
    let D : Lin (t -ℤ w) = search lins in
    let E : Lin (w -ℤ t) = search lins in
    let U : Lin (t -ℤ (w +ℤ r)) = search lins in
    let U' : Lin (t -ℤ (w +ℤ (t -ℤ w))) = search lins in
    let S : Lin (t -ℤ (w -ℤ r)) = search lins in
    let S' : Lin (t -ℤ (w -ℤ (w -ℤ t))) = search lins in
    let r0 = no_minus r h in
    chosen (λ (z : ℤ). size (t -ℤ z) ≡ size (t -ℤ w) - plus r) (lt_z w t)
    (λ e. let d0 = no_minus (t -ℤ w) (omega (arith, zs)) in
    chosen (λ (z : ℤ). size (t -ℤ (w +ℤ z)) ≡ size (t -ℤ w) - plus r) (lt_z r (t -ℤ w))
    (λ f. let u0 = no_minus (t -ℤ (w +ℤ r)) (omega (arith, zs)) in omega (arith, zs))
    (λ f. let u0 = no_minus (t -ℤ (w +ℤ (t -ℤ w))) (omega (arith, zs)) in
    let u1 = no_plus (t -ℤ (w +ℤ (t -ℤ w))) (omega (arith, zs)) in omega (arith, zs)))
    (λ e. let d0 = no_plus (t -ℤ w) (omega (arith, zs)) in
    chosen (λ (z : ℤ). size (t -ℤ (w -ℤ z)) ≡ size (t -ℤ w) - plus r) (lt_z r (w -ℤ t))
    (λ f. let u0 = no_plus (t -ℤ (w -ℤ r)) (omega (arith, zs)) in omega (arith, zs))
    (λ f. let u0 = no_minus (t -ℤ (w -ℤ (w -ℤ t))) (omega (arith, zs)) in
    let u1 = no_plus (t -ℤ (w -ℤ (w -ℤ t))) (omega (arith, zs)) in omega (arith, zs)))

-- ---- a run without a new target

-- two loops at one place on one way
record Alike (k l : Loop) : Type 0 where
  w : k.w ≡ l.w
  target : k.target ≡ l.target
  rate : k.rate ≡ l.rate

alike : (l : Loop) → Alike l l
alike l = record { w = refl; target = refl; rate = refl }

automatic_alike : (l : Loop) → Alike (step_of l Automatic) l
unfolding step_of
automatic_alike l = chosen (λ (x : Loop). Alike x l) l.automatic (λ _. alike l) (λ _. record { w = refl; target = refl; rate = refl })

set_alike : (l : Loop) (k : ℤ) → Alike (step_of l (Set k)) l
unfolding step_of
set_alike l k = chosen (λ (x : Loop). Alike x l) (eqb l.set (plus k)) (λ _. alike l) (λ _. record { w = refl; target = refl; rate = refl })

-- what n samples leave of the distance
pub record Left (l k : Loop) (n : ℕ) : Type 0 where
  pub left : distance k ≡ distance l - n * plus l.rate
  pub target : k.target ≡ l.target

from_alike : (m l k : Loop) (n : ℕ) → Alike m l → Left m k n → Left l k n
from_alike m l k n a f = record { left = rw (← a.w, ← a.target, ← a.rate) f.left; target = f.target ∙ a.target }

from_sample : (m l k : Loop) (n : ℕ) → m.target ≡ l.target → m.rate ≡ l.rate → distance m ≡ distance l - plus l.rate → Left m k n → Left l k (suc n)
from_sample m l k n t r d f = record {
  left = let e = f.left in let e' : distance k ≡ distance m - n * plus l.rate = rw (← r) e in omega (arith, e', d);
  target = f.target ∙ t;
}

pub run_left : (l : Loop) (cs : List Command) → pos 0 ≤ℤ l.rate → no_target cs ≡ true → Left l (obeyed l cs) (samples cs)
unfolding no_target samples after step_of sample_of sensed_of acted_of
run_left l [] h e = record { left = omega arith; target = refl }
run_left l (Sample pv ∷ cs) h e =
    let m = step_of l (Sample pv) in
    from_sample m l (obeyed m cs) (samples cs) refl refl (ramped_left l.w l.target l.rate h) (run_left m cs h e)
run_left l (Hold ∷ cs) h e = from_alike (step_of l Hold) l _ (samples cs) (record { w = refl; target = refl; rate = refl }) (run_left (step_of l Hold) cs h e)
run_left l (Put x ∷ cs) h e =
    from_alike (step_of l (Put x)) l _ (samples cs) (record { w = refl; target = refl; rate = refl }) (run_left (step_of l (Put x)) cs h e)
run_left l (Automatic ∷ cs) h e =
    let a = automatic_alike l in from_alike (step_of l Automatic) l _ (samples cs) a (run_left (step_of l Automatic) cs (rw a.rate h) e)
run_left l (Target t r ∷ cs) h e = never e
run_left l (Set k ∷ cs) h e =
    let a = set_alike l k in from_alike (step_of l (Set k)) l _ (samples cs) a (run_left (step_of l (Set k)) cs (rw a.rate h) e)

-- ---- ceiling(distance / rate)

rates_up : (l : Loop) → valid l ≡ true → (pos 0 ≤ℤ l.rate) × (1 ≤ plus l.rate)
rates_up l v =
    let b = inside_yes (pos 1) (pos 2000000) l.rate (holds_of l v).rate in
    let m = no_minus l.rate (omega (arith, zs)) in
    (omega (arith, zs), omega (arith, zs))

same_place : (t w : ℤ) → size (t -ℤ w) ≡ 0 → w ≡ t
same_place t w e =
    let T = at t in
    let W = at w in
    let D : Lin (t -ℤ w) = search lins in
    omega (arith, zs)

no_distance : (t w : ℤ) → w ≡ t → size (t -ℤ w) ≡ 0
no_distance t w e =
    let T = at t in
    let W = at w in
    let D : Lin (t -ℤ w) = search lins in
    let p = no_plus (t -ℤ w) (omega (arith, zs)) in
    let m = no_minus (t -ℤ w) (omega (arith, zs)) in
    omega arith

pub ceiling_reaches : (l : Loop) (cs : List Command) → valid l ≡ true → no_target cs ≡ true → samples_to_target l ≤ samples cs →
    (obeyed l cs).w ≡ l.target
ceiling_reaches l cs v e n =
    let r = rates_up l v in
    let f = run_left l cs r.0 e in
    let d = enough (distance l) (plus l.rate) (samples cs) r.1 n in
    same_place (obeyed l cs).target (obeyed l cs).w (omega (arith, f.left)) ∙ f.target

pub ceiling_first : (l : Loop) (cs : List Command) → valid l ≡ true → no_target cs ≡ true → samples cs < samples_to_target l →
    (obeyed l cs).w ≡ l.target → ⊥
ceiling_first l cs v e n at_Target =
    let r = rates_up l v in
    let f = run_left l cs r.0 e in
    let d = short (distance l) (plus l.rate) (samples cs) r.1 n in
    let z = no_distance (obeyed l cs).target (obeyed l cs).w (at_Target ∙ sym f.target) in
    omega (arith, f.left, z)
