use Rattle.pid.proofs.Held.{fixed_good, moving_good, sensed_good}
use mathlib.Core.Path.{refl}
use Rattle.whole.proofs.Num.{Num, nums, num_via, fits, gives}
use Rattle.pid.proofs.numbers.Fixed.sum.Goals as goal
use Rattle.pid.proofs.numbers.Fixed.sum.Goals.{After-share}

abbrev g_num : (c : After-share) → Num c.share.result
g_num c =
    let f = (fixed_good c.args.self) in
    let z = (sensed_good c.args.z) in
    num_via c.share.ensures (search nums depth 12)

pub overflow_add-result-2 : goal.overflow_add-result-2
overflow_add-result-2 c =
    let f = (fixed_good c.args.self) in
    let m = (moving_good c.args.m) in
    let z = (sensed_good c.args.z) in
    let g = g_num (goal.at.overflow_add-result-2 c).After-share in
    fits (search nums depth 12) tt

pub overflow_add-result-3 : goal.overflow_add-result-3
overflow_add-result-3 c =
    let f = (fixed_good c.args.self) in
    let m = (moving_good c.args.m) in
    let z = (sensed_good c.args.z) in
    let g = g_num (goal.at.overflow_add-result-3 c).After-share in
    fits (search nums depth 12) tt

pub returns : goal.returns
returns c =
    let f = (fixed_good c.args.self) in
    let m = (moving_good c.args.m) in
    let z = (sensed_good c.args.z) in
    let g = g_num (goal.at.returns c).After-share in
    gives (search nums depth 12) tt refl
