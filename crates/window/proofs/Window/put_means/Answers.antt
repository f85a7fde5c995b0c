use Prim.Native.Nat.{ℕ, ◌≤◌, min}
use mathlib.Core.Path.{◌≡◌, refl, sym, ap, ap₂, ◌∙◌}
use mathlib.Core.List.{List, []}
use native.Mathlib.Omega.{arith}
use lib.IntN.{ℤ, pos, negsuc}
use lib.ListN.{length, take, drop}
use lib.Seq.{sets, take_all, length-take-le, length-sets}
use Rattle.whole.specs.Numbers.{Within}
use Rattle.whole.proofs.Parts.{inside_yes}
use Rattle.whole.proofs.Num.{nums, fits, gives}
use Rattle.settings.specs.Table.{reach, window}
use Rattle.window.specs.declared.Window.{Window}
use Rattle.window.specs.declared.means.Summed.{Summed}
use Rattle.window.specs.Window.{sum_of}
use Rattle.window.specs.Means.{means_of, front_filled, past_of}
use Rattle.window.specs.Bounds.{sum_reach}
use Rattle.window.specs.Running.{means_at}
use Rattle.window.proofs.Fit.{window_fit}
use Rattle.window.proofs.Sums.{bits_take, sum_reach_lem}
use Rattle.window.proofs.Ranged.{ranged_each, ranged_bits}
use Rattle.window.proofs.Taken.{means_at_lem, means_length, sets_front, past_each}
use Rattle.window.proofs.Runs.{means_one, first_sum, both_parts}
use Rattle.window.proofs.Window.put_means.Goals as goal
use Rattle.window.proofs.Window.put_means.Goals.{After-put_first-s}

-- how many are counted, n, and at most
few : (m seen : ℕ) {most n : ℕ} → most ≡ min m window → n ≡ min m (min seen window) → (n ≤ most) × (most ≤ window)
few m seen e f = (omega (arith, e, f), omega (arith, e))

module _ (m : ℕ) {most n : ℕ} (w : Window) (pvs out : List ℤ) (l : length w.places ≡ window) (e : most ≡ min m window) (f : n ≡ min m (min w.seen window)) where
  means_are : sets out 0 (means_at most n w.places pvs) ≡ sets out 0 (means_of m w pvs)
  means_are =
      ap (sets out 0)
      (ap₂ (λ (p q : ℕ). means_at p q w.places pvs) e f ∙ sym (means_at_lem m w w.places pvs (take_all window w.places (omega (arith, l))) (omega (arith, l))))

  -- the means put from the first place on are the list's front
  front : length pvs ≤ length out → sets out 0 (means_at most n w.places pvs) ≡ front_filled (means_of m w pvs) out
  front h = means_are ∙ sets_front out (means_of m w pvs) (omega (arith, means_length m w pvs, h))

-- ---- after the first samples
long : (c : After-put_first-s) → c.min-most.result ≤ length c.args.samples.now
long c = omega (arith, c.if-samples-most.false)

sum_is : (c : After-put_first-s) → c.put_first-s.result.sum ≡ sum_of (take c.min-most.result (past_of [] c.args.samples.now c.min-most.result))
sum_is c =
    ap (λ (x : Summed). x.sum) c.put_first-s.ensures.value
    ∙ first_sum c.min-most.result c.counted-n.result c.args.self.places c.args.samples.now (few c.args.m c.args.self.seen c.min-most.ensures c.counted-n.ensures).0 (long c)

sum_small : (c : After-put_first-s) → Within sum_reach c.put_first-s.result.sum
sum_small c =
    let pvs = c.args.samples.now in
    rw (sum_is c)
    (sum_reach_lem c.min-most.result _ (few c.args.m c.args.self.seen c.min-most.ensures c.counted-n.ensures).1
    (past_each _ _ [] pvs c.min-most.result (λ _. inside_yes (negsuc 999999) (pos reach) (pos 0) refl) (ranged_each pvs c.requires.0)))

pub returns-then-m-eq1 : goal.returns-then-m-eq1
returns-then-m-eq1 c =
    let w = c.args.self in
    let pvs = c.args.samples.now in
    let out = c.args.out.now in
    c.put_samples.ensures
    ∙ sets_front out pvs c.requires.1
    ∙ ap (λ (xs : List ℤ). front_filled xs out) (sym (ap (λ (m : ℕ). means_of m w pvs) c.if-m-eq1.true ∙ means_one w pvs))

pub put_first-requires : goal.put_first-requires
put_first-requires c =
    let k = few c.args.m c.args.self.seen c.min-most.ensures c.counted-n.ensures in
    (k.0, k.1, c.if-samples-most.true, c.requires.1, (window_fit c.args.self c.well_formed.0).bits, ranged_bits c.args.samples.now c.requires.0)

pub returns-then-samples-most : goal.returns-then-samples-most
returns-then-samples-most c =
    c.put_first.ensures.out_after
    ∙ front c.args.m c.args.self c.args.samples.now c.args.out.now (window_fit c.args.self c.well_formed.0).places c.min-most.ensures c.counted-n.ensures c.requires.1

pub put_first-s-requires : goal.put_first-s-requires
put_first-s-requires c =
    let most = c.min-most.result in
    let pvs = c.args.samples.now in
    let f = few c.args.m c.args.self.seen c.min-most.ensures c.counted-n.ensures in
    let k = length-take-le most pvs (omega (arith, c.if-samples-most.false)) in
    (f.0, f.1, omega (arith, k), omega (arith, k, c.requires.1, c.if-samples-most.false), (window_fit c.args.self c.well_formed.0).bits, bits_take most pvs (ranged_bits pvs c.requires.0))

pub overflow_cast-s : goal.overflow_cast-s
overflow_cast-s c =
    let v = sum_small (goal.at.overflow_cast-s c).After-put_first-s in
    fits (search nums depth 12) tt

pub put_rest-requires : goal.put_rest-requires
put_rest-requires c =
    let most = c.min-most.result in
    let pvs = c.args.samples.now in
    let v = sum_small (goal.at.put_rest-requires c).After-put_first-s in
    let e = ap length c.put_first-s.ensures.out_after ∙ length-sets c.args.out.now 0 (means_at most c.counted-n.result c.args.self.places (take most pvs)) in
    ((few c.args.m c.args.self.seen c.min-most.ensures c.counted-n.ensures).1, long (goal.at.put_rest-requires c).After-put_first-s, omega (arith, e, c.requires.1), c.requires.0, gives (search nums depth 12) tt (sum_is (goal.at.put_rest-requires c).After-put_first-s))

pub returns : goal.returns
returns c =
    let most = c.min-most.result in
    let w = c.args.self in
    let pvs = c.args.samples.now in
    c.put_rest.ensures
    ∙ ap (λ (x : List ℤ). sets x most (means_at most most (past_of [] pvs most) (drop most pvs))) c.put_first-s.ensures.out_after
    ∙ both_parts most c.counted-n.result w.places pvs (few c.args.m c.args.self.seen c.min-most.ensures c.counted-n.ensures).0 (long (goal.at.returns c).After-put_first-s) c.args.out.now
    ∙ front c.args.m w pvs c.args.out.now (window_fit w c.well_formed.0).places c.min-most.ensures c.counted-n.ensures c.requires.1
