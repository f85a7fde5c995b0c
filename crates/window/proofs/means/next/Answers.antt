use Prim.Native.Nat.{ℕ, ◌+◌, ◌-◌}
use mathlib.Core.Path.{◌≡◌, refl, sym, ap, ◌∙◌}
use native.Mathlib.Omega.{arith}
use lib.IntN.{ℤ, pos}
use lib.ListN.{get_or, take}
use mir.Syntax.{w32}
use mir.Val.{SFits}
use Rattle.whole.specs.Numbers.{Within}
use Rattle.whole.proofs.Num.{nums, fits, gives}
use Rattle.window.specs.declared.means.Summed.{Summed}
use Rattle.window.specs.Window.{sum_of}
use Rattle.window.specs.Means.{past_of}
use Rattle.window.specs.Bounds.{Bits, sum_most}
use Rattle.window.proofs.Sums.{mean_ok, sum_within}
use Rattle.window.proofs.Taken.{past_bits, past_old, summed_more, summed_turn}
use Rattle.window.proofs.means.next.Goals as goal
use Rattle.window.proofs.means.next.Goals.{After-gone-1, Start}

all : (c : Start) (n : ℕ) → Bits (past_of c.args.places.now c.args.samples.now n)
all c n = past_bits c.args.places.now c.args.samples.now n c.requires.4 c.requires.5

-- the sum before the sample, and its size
sum_is : (c : Start) → c.args.s.sum ≡ sum_of (take c.args.s.n (past_of c.args.places.now c.args.samples.now c.args.i))
sum_is c = ap (λ (s : Summed). s.sum) c.requires.6

sum_small : (c : Start) → Within sum_most c.args.s.sum
sum_small c = rw (sum_is c) (sum_within (mean_ok c.args.s.n _ (omega (arith, c.requires.0, c.requires.1)) (all c c.args.i)))

-- what leaves the sum
gone_fits : (c : After-gone-1) →
    let a = c.args in
    SFits w32 (get_or a.places.now (a.most - 1 - a.i) (pos 0))
gone_fits c = c.requires.4 (c.args.most - 1 - c.args.i)

pub overflow_add-sum : goal.overflow_add-sum
overflow_add-sum c =
    let x = c.requires.5 c.args.i in
    let w = sum_small (goal.at.overflow_add-sum c).Start in
    fits (search nums depth 12) tt

pub returns-then-s-most : goal.returns-then-s-most
returns-then-s-most c =
    let a = c.args in
    let x = c.requires.5 a.i in
    let w = sum_small (goal.at.returns-then-s-most c).Start in
    ap (λ (z : ℤ). record { n = a.s.n + 1; sum = z }) (gives (search nums depth 12) tt refl)
    ∙ summed_more a.s.n a.most a.i a.s.sum a.places.now a.samples.now (sum_is (goal.at.returns-then-s-most c).Start) c.if-s-most.true

pub overflow_sub-result : goal.overflow_sub-result
overflow_sub-result c =
    let x = c.requires.5 c.args.i in
    let w = sum_small (goal.at.overflow_sub-result c).Start in
    let g = gone_fits (goal.at.overflow_sub-result c).After-gone-1 in
    fits (search nums depth 20) tt

pub returns : goal.returns
returns c =
    let a = c.args in
    let x = c.requires.5 a.i in
    let w = sum_small (goal.at.returns c).Start in
    let g = gone_fits (goal.at.returns c).After-gone-1 in
    let k : a.most - (a.i + 1) ≡ a.most - 1 - a.i = omega arith in
    let e = past_old a.places.now a.samples.now (a.i + 1) a.most (omega (arith, c.requires.2)) ∙ ap (λ (j : ℕ). get_or a.places.now j (pos 0)) k in
    ap (λ (z : ℤ). record { n = a.s.n; sum = z }) (gives (search nums depth 20) tt refl)
    ∙ summed_turn a.s.n a.most a.i a.s.sum a.places.now a.samples.now (sum_is (goal.at.returns c).Start) _ (omega (arith, c.if-s-most.false, c.requires.0)) (sym e)
