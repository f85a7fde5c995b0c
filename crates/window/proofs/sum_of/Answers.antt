use mathlib.Core.Path.{sym, ap, ◌∙◌}
use mathlib.Core.List.{List}
use native.Mathlib.Numerals.{add-one}
use native.Mathlib.Omega.{arith}
use lib.IntN.{ℤ, pos}
use lib.ListN.{get_or, take, length-take}
use lib.Seq.{take_all}
use mir.Syntax.{w32}
use mir.Val.{SFits}
use Rattle.whole.specs.Numbers.{Within}
use Rattle.whole.proofs.Num.{nums, fits, gives}
use Rattle.window.specs.Window.{sum_of}
use Rattle.window.specs.Bounds.{sum_most}
use Rattle.window.proofs.Sums.{sum_next, sum_within, mean_ok, bits_take}
use Rattle.window.proofs.sum_of.Goals as goal
use Rattle.window.proofs.sum_of.Goals.{In-loop-x}

counted : In-loop-x → List ℤ
counted c = take c.args.n c.args.places.now

-- the place of a turn, and the sum before it
here : (c : In-loop-x) → SFits w32 (get_or (counted c) c.loop-x.x-index (pos 0))
unfolding counted
here c = bits_take c.args.n c.args.places.now c.requires.1 c.loop-x.x-index

so_far : (c : In-loop-x) → Within sum_most (sum_of (take c.loop-x.x-index (counted c)))
unfolding counted
so_far c =
    sum_within (mean_ok c.loop-x.x-index (counted c) (omega (arith, c.requires.0, c.loop-x-test.true, length-take c.args.n c.args.places.now)) (bits_take c.args.n c.args.places.now c.requires.1))

pub overflow_add-sum : goal.overflow_add-sum
unfolding counted
overflow_add-sum c =
    let f = here (goal.at.overflow_add-sum c).In-loop-x in
    let w = so_far (goal.at.overflow_add-sum c).In-loop-x in
    rw c.loop-x.invariant (fits (search nums depth 12) tt)

pub loop-x-preserved : goal.loop-x-preserved
unfolding counted
loop-x-preserved c =
    let f = here (goal.at.loop-x-preserved c).In-loop-x in
    let w = so_far (goal.at.loop-x-preserved c).In-loop-x in
    rw (c.loop-x.invariant, add-one c.loop-x.x-index) (gives (search nums depth 12) tt (sym (sum_next c.loop-x.x-index (counted (goal.at.loop-x-preserved c).In-loop-x))))

pub returns : goal.returns
returns c =
    c.loop-x.invariant ∙ ap sum_of (take_all c.loop-x.x-index (take c.args.n c.args.places.now) c.loop-x-test.false)
