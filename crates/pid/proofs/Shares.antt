-- An ordinary sample within limits adds its share to the integral, and nothing else moves the integral between samples.
use mathlib.Core.Path.{◌≡◌, refl, sym, ap, ◌∙◌}
use mathlib.Core.Bool.{true, not, cond, ◌&&◌}
use mathlib.Core.List.{List, [], ◌∷◌}
use native.Mathlib.Omega.{arith}
use borrow.Author.Tests.{eqb-true, not-true}
use lib.Dec.{eqb}
use lib.IntN.{ℤ, pos, ◌+ℤ◌, ◌-ℤ◌, ◌*ℤ◌, *ℤ-zero, +ℤ_idr, +ℤ_assoc}
use lib.Signed.{lt_z, ◌≤ℤ◌}
use Rattle.whole.specs.Numbers.{plus}
use Rattle.whole.proofs.Truth.{both, chosen, cond_yes, cond_no}
use Rattle.whole.proofs.Parts.{zs, eq_z_yes, Between}
use Rattle.whole.proofs.Lin.{Lin, at, lins}
use Rattle.settings.specs.Table.{in_reach}
use Rattle.command.specs.declared.Command.{Command}
use Rattle.command.specs.declared.Command.TheVariants.{Sample, Hold, Put, Automatic, Target, Set}
use Rattle.record.specs.declared.Loop.{Loop}
use Rattle.record.specs.Record.{valid}
use Rattle.record.specs.Refusals.{refusal_of}
use Rattle.record.proofs.Rules.{holds_of}
use Rattle.record.proofs.Refused.{sample_reach}
use Rattle.pid.specs.Numbers.{Fixed}
use Rattle.pid.specs.Numbers.{Moving}
use Rattle.pid.specs.Numbers.{Sensed}
use Rattle.pid.specs.Units.{rounded}
use Rattle.pid.specs.Bounds.{FixedOk, MovingOk, SensedOk}
use Rattle.pid.specs.Sample.{lesser, greater, limited, share_of, v_of, limited_v, clamped, back_calculated, integrated, new_i, acted_of}
use Rattle.pid.specs.Law.{fixed_of, moving_of, read_at, sample_of, step_of}
use Rattle.command.specs.Sequence.{after}
use Rattle.pid.specs.Run.{obeyed, accepted, sensed_at, share_at, within_limits, ordinary_within, unbroken, shares}
use Rattle.pid.proofs.Arithmetic.{limited_between}
use Rattle.pid.proofs.Samples.{sensed_ok}
use Rattle.pid.proofs.Sound.{fixed_ok, moving_ok, read_in}
use Rattle.pid.proofs.Kept.{step_valid}

-- clamping leaves room for the share where v is within the limits
clamped_share : (i g p d lo hi : ℤ) → lo ≤ℤ (p +ℤ i +ℤ g +ℤ d) → (p +ℤ i +ℤ g +ℤ d) ≤ℤ hi →
    clamped i g (hi -ℤ p -ℤ d) (lo -ℤ p -ℤ d) ≡ i +ℤ g
unfolding clamped lesser greater
clamped_share i g p d lo hi l h =
    let I = at i in
    let G = at g in
    let P = at p in
    let D = at d in
    let O = at lo in
    let H = at hi in
    let V' : Lin (p +ℤ i +ℤ g +ℤ d) = search lins in
    let S : Lin (i +ℤ g) = search lins in
    let T : Lin (hi -ℤ p -ℤ d) = search lins in
    let U : Lin (lo -ℤ p -ℤ d) = search lins in
    let Is : ℤ → Type 0 = λ z. z ≡ i +ℤ g in
    chosen Is (lt_z (pos 0) g)
    (λ e. chosen (λ (z : ℤ). cond (lt_z i z) z i ≡ i +ℤ g) (lt_z (i +ℤ g) (hi -ℤ p -ℤ d))
    (λ a. chosen Is (lt_z i (i +ℤ g)) (λ b. refl) (λ b. omega (arith, zs)))
    (λ a. chosen Is (lt_z i (hi -ℤ p -ℤ d)) (λ b. omega (arith, zs)) (λ b. omega (arith, zs))))
    (λ e. chosen Is (lt_z g (pos 0))
    (λ f. chosen (λ (z : ℤ). cond (lt_z i z) i z ≡ i +ℤ g) (lt_z (i +ℤ g) (lo -ℤ p -ℤ d))
    (λ a. chosen Is (lt_z i (lo -ℤ p -ℤ d)) (λ b. omega (arith, zs)) (λ b. omega (arith, zs)))
    (λ a. chosen Is (lt_z i (i +ℤ g)) (λ b. omega (arith, zs)) (λ b. refl)))
    (λ f. omega (arith, zs)))

limited_inside : (x lo hi : ℤ) → lo ≤ℤ x → x ≤ℤ hi → limited x lo hi ≡ x
unfolding limited
limited_inside x lo hi l h =
    let X = at x in
    let L = at lo in
    let H = at hi in
    let Is : ℤ → Type 0 = λ z. z ≡ x in
    chosen Is (lt_z x lo) (λ e. omega (arith, zs)) (λ e. chosen Is (lt_z hi x) (λ f. omega (arith, zs)) (λ f. refl))

-- with no excess, back-calculation adds nothing to the share
no_excess : (u v kt : ℤ) → u ≡ v → rounded (kt *ℤ (u -ℤ v)) ≡ pos 0
unfolding rounded
no_excess u v kt e = rw (zero_of, *ℤ-zero kt)
  where
    zero_of : u -ℤ v ≡ pos 0
    zero_of =
        let U = at u in
        let V' = at v in
        let D : Lin (u -ℤ v) = search lins in
        omega (arith, zs)

module _ (f : Fixed) (m : Moving) (z : Sensed) (a : FixedOk f) (b : MovingOk m) (c : SensedOk z) (e : v_of f m z ≡ limited_v f m z) where
  in_limits : Between f.lo f.hi (v_of f m z)
  in_limits =
      let L = at f.lo in
      let H = at f.hi in
      rw e (limited_between (v_of f m z) f.lo f.hi (omega (arith, zs, a.apart)))

  back_share : back_calculated m.integral (share_of f z) f.kt (limited_v f m z -ℤ v_of f m z) ≡ m.integral +ℤ share_of f z
  unfolding back_calculated
  back_share =
      let p = c.p in
      let d = c.d in
      let lo = a.lo in
      let hi = a.hi in
      let i = b.integral in
      let G = at (share_of f z) in
      let V' : Lin (v_of f m z) = search lins in
      let S : Lin (m.integral +ℤ share_of f z) = search lins in
      rw (no_excess (limited_v f m z) (v_of f m z) f.kt (sym e), +ℤ_idr (m.integral +ℤ share_of f z))
      (limited_inside _ _ _ (omega (arith, zs, in_limits.low)) (omega (arith, zs, in_limits.high)))

  pub new_i_share : new_i f m z ≡ m.integral +ℤ share_of f z
  unfolding integrated
  new_i_share =
      chosen (λ (x : ℤ). x ≡ m.integral +ℤ share_of f z) (lt_z (pos 0) f.kt) (λ _. back_share)
      (λ _. clamped_share m.integral (share_of f z) z.p z.d f.lo f.hi in_limits.low in_limits.high)

-- one ordinary sample within limits
pub sample_share : (l : Loop) (pv : ℤ) → valid l ≡ true → in_reach pv ≡ true → ordinary_within l pv ≡ true →
    (step_of l (Sample pv)).integral ≡ l.integral +ℤ share_at l pv
unfolding step_of sample_of acted_of
sample_share l pv v r o =
    let q = both (l.automatic && not l.pending) (within_limits l pv) o in
    let s = both l.automatic (not l.pending) q.0 in
    let h = holds_of l v in
    let f = fixed_ok l h in
    let m = moving_ok l h in
    let z = sensed_ok (fixed_of l) (moving_of l) (read_at l pv) f m (read_in l h pv r) in
    cond_yes _ _ s.0 ∙ cond_no _ _ (not-true l.pending s.1)
    ∙ new_i_share (fixed_of l) (moving_of l) (sensed_at l pv) f m z (eq_z_yes _ _ q.1)

automatic_integral : (l : Loop) → (step_of l Automatic).integral ≡ l.integral
unfolding step_of
automatic_integral l = chosen (λ (x : Loop). x.integral ≡ l.integral) l.automatic (λ _. refl) (λ _. refl)

set_integral : (l : Loop) (k : ℤ) → (step_of l (Set k)).integral ≡ l.integral
unfolding step_of
set_integral l k = chosen (λ (x : Loop). x.integral ≡ l.integral) (eqb l.set (plus k)) (λ _. refl) (λ _. refl)

abbrev Runs : Loop → List Command → Type 0
Runs l cs = (obeyed l cs).integral ≡ l.integral +ℤ shares l cs

-- the head of an accepted list
head : (l : Loop) (c : Command) (cs : List Command) → valid l ≡ true → accepted l (c ∷ cs) ≡ true →
    (refusal_of l c ≡ 0) × (valid (step_of l c) ≡ true) × (accepted (step_of l c) cs ≡ true)
unfolding accepted
head l c cs v e =
    let b = both (eqb (refusal_of l c) 0) (accepted (step_of l c) cs) e in
    let r = eqb-true (refusal_of l c) 0 b.0 in
    (r, step_valid l c v r, b.1)

-- a command that leaves the integral
moved : (m l : Loop) (cs : List Command) → m.integral ≡ l.integral → Runs m cs → (obeyed m cs).integral ≡ l.integral +ℤ shares m cs
moved m l cs e r = rw (← e) r

pub run_shares : (l : Loop) (cs : List Command) → valid l ≡ true → accepted l cs ≡ true → unbroken l cs ≡ true → Runs l cs
unfolding after unbroken shares step_of
run_shares l [] v a u = sym (+ℤ_idr l.integral)
run_shares l (Sample pv ∷ cs) v a u =
    let h = head l (Sample pv) cs v a in
    let m = step_of l (Sample pv) in
    let b = both (ordinary_within l pv) (unbroken m cs) u in
    run_shares m cs h.1 h.2 b.1
    ∙ ap (λ (i : ℤ). i +ℤ shares m cs) (sample_share l pv v (sample_reach l pv h.0) b.0)
    ∙ +ℤ_assoc l.integral (share_at l pv) (shares m cs)
run_shares l (Hold ∷ cs) v a u = let h = head l Hold cs v a in run_shares (step_of l Hold) cs h.1 h.2 u
run_shares l (Put x ∷ cs) v a u = let h = head l (Put x) cs v a in run_shares (step_of l (Put x)) cs h.1 h.2 u
run_shares l (Automatic ∷ cs) v a u =
    let h = head l Automatic cs v a in
    moved (step_of l Automatic) l cs (automatic_integral l) (run_shares (step_of l Automatic) cs h.1 h.2 u)
run_shares l (Target t r ∷ cs) v a u = let h = head l (Target t r) cs v a in run_shares (step_of l (Target t r)) cs h.1 h.2 u
run_shares l (Set k ∷ cs) v a u =
    let h = head l (Set k) cs v a in
    moved (step_of l (Set k)) l cs (set_integral l k) (run_shares (step_of l (Set k)) cs h.1 h.2 u)
