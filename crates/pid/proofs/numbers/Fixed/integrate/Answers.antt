use Rattle.pid.proofs.Held.{fixed_good, moving_good, sensed_good}
use Rattle.whole.proofs.Num.{Num, nums, num_via, stays, same4, test}
use Rattle.pid.specs.Sample.{integrated, clamped, back_calculated}
use mathlib.Core.Path.{◌∙◌}
use mir.Syntax.{w64}
use Rattle.whole.proofs.Bits.{back}
use Rattle.pid.proofs.numbers.Fixed.integrate.Goals as goal
use Rattle.pid.proofs.numbers.Fixed.integrate.Goals.{After-room, After-room-2, After-share-g}

abbrev g_num : (c : After-share-g) → Num c.share-g.result
g_num c =
    let f = (fixed_good c.args.self) in
    let z = (sensed_good c.args.z) in
    num_via c.share-g.ensures (search nums depth 12)

abbrev top_num : (c : After-room) → Num c.room.result
top_num c =
    let f = (fixed_good c.args.self) in
    let z = (sensed_good c.args.z) in
    num_via c.room.ensures (search nums depth 12)

abbrev bottom_num : (c : After-room-2) → Num c.room-2.result
bottom_num c =
    let f = (fixed_good c.args.self) in
    let z = (sensed_good c.args.z) in
    num_via c.room-2.ensures (search nums depth 12)

pub back_calculate-requires : goal.back_calculate-requires
back_calculate-requires c =
    let f = (fixed_good c.args.self) in
    let m = (moving_good c.args.m) in
    let z = (sensed_good c.args.z) in
    let x = c.requires in
    let g = g_num (goal.at.back_calculate-requires c).After-share-g in
    record {
      i_ok = stays (search nums depth 12) tt;
      g_ok = stays (search nums depth 12) tt;
      kt_ok = stays (search nums depth 12) tt;
      excess_ok = stays (search nums depth 12) tt;
    }

pub returns-then-self-gt0 : goal.returns-then-self-gt0
unfolding integrated
returns-then-self-gt0 c =
    let f = (fixed_good c.args.self) in
    let m = (moving_good c.args.m) in
    let z = (sensed_good c.args.z) in
    let x = c.requires in
    let g = g_num (goal.at.returns-then-self-gt0 c).After-share-g in
    let r = c.back_calculate in
    rw (test c.if-self-gt0.true (search nums depth 12) tt)
    (back w64 r.result r.type_inv ∙ r.ensures ∙ same4 back_calculated (search nums depth 12) (search nums depth 12) (search nums depth 12) (search nums depth 12) tt)

pub clamp-requires : goal.clamp-requires
clamp-requires c =
    let f = (fixed_good c.args.self) in
    let m = (moving_good c.args.m) in
    let z = (sensed_good c.args.z) in
    let x = c.requires in
    let g = g_num (goal.at.clamp-requires c).After-share-g in
    let t = top_num (goal.at.clamp-requires c).After-room in
    let b = bottom_num (goal.at.clamp-requires c).After-room-2 in
    record {
      i_ok = stays (search nums depth 12) tt;
      g_ok = stays (search nums depth 12) tt;
      top_ok = stays (search nums depth 12) tt;
      bottom_ok = stays (search nums depth 12) tt;
    }

pub returns : goal.returns
unfolding integrated
returns c =
    let f = (fixed_good c.args.self) in
    let m = (moving_good c.args.m) in
    let z = (sensed_good c.args.z) in
    let x = c.requires in
    let g = g_num (goal.at.returns c).After-share-g in
    let t = top_num (goal.at.returns c).After-room in
    let b = bottom_num (goal.at.returns c).After-room-2 in
    let r = c.clamp in
    rw (test c.if-self-gt0.false (search nums depth 12) tt)
    (back w64 r.result r.type_inv ∙ r.ensures ∙ same4 clamped (search nums depth 12) (search nums depth 12) (search nums depth 12) (search nums depth 12) tt)
