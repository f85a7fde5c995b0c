use mathlib.Core.Path.{◌≡◌, refl}
use native.Mathlib.Omega.{arith}
use mir.Syntax.{w64}
use mir.Val.{to_z, of_z}
use Rattle.whole.proofs.Num.{nums, gives}
use Rattle.window.specs.Bounds.{MeanOk}
use Rattle.window.proofs.Fit.{window_fit}
use Rattle.window.proofs.Sums.{mean_ok, sum_within}
use Rattle.window.proofs.Window.mean.Goals as goal
use Rattle.window.proofs.Window.mean.Goals.{After-sum_of}

-- the sum of those counted
counted_ok : (c : After-sum_of) → MeanOk c.sum_of.result c.counted-n.result
counted_ok c =
    let n = c.counted-n in
    rw c.sum_of.ensures (mean_ok n.result c.args.self.places (omega (arith, n.ensures)) (window_fit c.args.self c.well_formed.0).bits)

pub sum_of-requires : goal.sum_of-requires
sum_of-requires c =
    (omega (arith, c.counted-n.ensures), (window_fit c.args.self c.well_formed.0).bits)

pub mean_of-requires : goal.mean_of-requires
mean_of-requires c =
    let k = counted_ok (goal.at.mean_of-requires c).After-sum_of in
    let w = sum_within k in
    let e : to_z w64 (of_z w64 c.sum_of.result) ≡ c.sum_of.result = gives (search nums depth 12) tt refl in
    rw e k
