use Rattle.pid.proofs.Held.{fixed_good, sensed_good}
use mathlib.Core.Path.{refl}
use Rattle.whole.proofs.Num.{nums, fits, gives}
use Rattle.pid.proofs.numbers.Fixed.share.Goals as goal

pub overflow_mul-result : goal.overflow_mul-result
overflow_mul-result c =
    let f = fixed_good c.args.self in
    let z = sensed_good c.args.z in
    fits (search nums depth 12) tt

pub returns : goal.returns
returns c =
    let f = fixed_good c.args.self in
    let z = sensed_good c.args.z in
    gives (search nums depth 12) tt refl
