use Rattle.pid.specs.Told.{fixed_told, moving_told}
use Rattle.pid.proofs.Held.{fixed_good, moving_good}
use Prim.Native.Nat.{◌<◌}
use mathlib.Core.Path.{◌≡◌, refl, ap, ◌∙◌}
use native.Mathlib.Omega.{arith}
use lib.IntN.{ℤ, pos}
use lib.ListN.{length, get_or, take}
use lib.Seq.{length-take-le}
use mir.Syntax.{w32, w64}
use mir.Val.{SFits, to_z, of_z}
use mir.Facts.{to_z-of_z}
use Rattle.pid.specs.Numbers.{Fixed}
use Rattle.pid.specs.Numbers.{Moving}
use Rattle.pid.specs.Numbers.{Sensed}
use Rattle.whole.proofs.Num.{nums, fits, gives}
use Rattle.pid.specs.Sample.{sensed_of, acted_of, moved_of}
use Rattle.pid.specs.Play.{moved_outputs}
use Rattle.pid.proofs.Turns.{here, sample_in, next_turn, end_moved, end_outputs, each_length, front_joined}
use Rattle.pid.proofs.play.run.Goals as goal
use Rattle.pid.proofs.play.run.Goals.{In-loop-place}

-- in a turn: what the law reads
abbrev read : In-loop-place → ℤ
read c = get_or (take c.args.n c.args.out.now) c.loop-place.place-index (pos 0)

more : (c : In-loop-place) → c.loop-place.place-index < length (take c.args.n c.args.out.now)
more c = c.loop-place-test.true

read_is : (c : In-loop-place) → to_z w32 (of_z w32 (get_or c.loop-place.place-items c.loop-place.place-index (pos 0))) ≡ read c
read_is c =
    let w = sample_in c.loop-place.invariant (more c) in
    let s : SFits w32 (read c) = fits (search nums depth 12) tt in
    rw (here c.loop-place.invariant) (to_z-of_z s)

-- what the two halves give
m_is : (f : Fixed) (m : Moving) {n : Moving} {x y : ℤ} {z : Sensed} → x ≡ y → z ≡ sensed_of f m x → n ≡ acted_of f m z → n ≡ moved_of f m y
m_is f m e g h = h ∙ ap (acted_of f m) (g ∙ ap (sensed_of f m) e)

pub sense-requires : goal.sense-requires
sense-requires c =
    let l = (goal.at.sense-requires c).In-loop-place in
    rw (read_is l) (sample_in c.loop-place.invariant (more l))

pub overflow_cast-place : goal.overflow_cast-place
overflow_cast-place c =
    let l = (goal.at.overflow_cast-place c).In-loop-place in
    let o = (moving_good c.act-m.result).u in
    fits (search nums depth 12) tt

pub loop-place-preserved : goal.loop-place-preserved
loop-place-preserved c =
    let l = (goal.at.loop-place-preserved c).In-loop-place in
    let e = m_is (fixed_told c.args.f) (moving_told c.loop-place.m) (read_is l) c.sense.ensures c.act-m.ensures in
    let o = (moving_good c.act-m.result).u in
    -- the output as it is stored
    let u : to_z w32 (of_z w32 (to_z w64 (of_z w64 c.act-m.result.u))) ≡ c.act-m.result.u = gives (search nums depth 12) tt refl in
    rw (u, e, ap (λ (n : Moving). n.u) e) (next_turn c.loop-place.invariant (more l) (fixed_good c.args.f))

pub returns-clause-value : goal.returns-clause-value
returns-clause-value c = end_moved c.loop-place.invariant c.loop-place-test.false

pub returns-clause-out_after : goal.returns-clause-out_after
returns-clause-out_after c =
    let a = c.args in
    let l = length-take-le a.n a.out.now c.requires.0 in
    let e = end_outputs c.loop-place.invariant c.loop-place-test.false (omega arith) in
    rw e (front_joined (moved_outputs (fixed_told a.f) (moving_told a.start) (take a.n a.out.now)) a.out.now a.n c.requires.0 (each_length (moved_of (fixed_told a.f)) _ (moving_told a.start) (take a.n a.out.now) ∙ l))
