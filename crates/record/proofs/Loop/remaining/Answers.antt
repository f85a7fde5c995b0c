use mathlib.Core.Path.{◌≡◌, sym, ap₂, ◌∙◌}
use native.Mathlib.Omega.{arith}
use lib.IntN.{ℤ, pos, ◌-ℤ◌}
use lib.Signed.{◌≤ℤ◌}
use mir.Facts.{to_z-of_z}
use Rattle.std.specs.Int.{div_ceil}
use Rattle.whole.specs.Numbers.{plus}
use Rattle.whole.proofs.Parts.{zs, no_plus, le_no}
use Rattle.whole.proofs.Bits.{abs_up}
use Rattle.record.specs.Remaining.{distance, remaining_of}
use Rattle.record.proofs.Ceiling.{ceiling_none, ceiling_is, size_is}
use Rattle.record.proofs.Fit.{LoopFit, loop_fit}
use Rattle.record.specs.declared.Loop.{Loop}
use mir.Syntax.{w32}
use mir.Val.{SFits}
use Rattle.record.proofs.Loop.remaining.Goals as goal

-- the rate that is read
abbrev read : Loop → ℤ
read l = l.rate

read_fits : {l : Loop} → LoopFit l → SFits w32 (read l)
read_fits f = f.rate

pub returns-then-rate-le0 : goal.returns-then-rate-le0
unfolding remaining_of
returns-then-rate-le0 c =
    let l = c.args.self in
    let f = loop_fit l c.well_formed.0 in
    let t = rw (to_z-of_z (read_fits f)) at c.if-rate-le0.true in
    let z : plus (read l) ≡ 0 = no_plus (read l) (omega (arith, zs)) in
    rw z (sym (ceiling_none (distance l)))

pub returns : goal.returns
unfolding remaining_of
returns c =
    let l = c.args.self in
    let f = loop_fit l c.well_formed.0 in
    let t = rw (to_z-of_z (read_fits f)) at c.if-rate-le0.false in
    let up : pos 0 ≤ℤ read l = omega (arith, zs) in
    let d = (rw (to_z-of_z f.target, to_z-of_z f.w) at c.abs_diff.ensures) ∙ size_is (l.target -ℤ l.w) in
    let r = (rw (to_z-of_z (read_fits f)) at c.unsigned_abs.ensures.value) ∙ abs_up (read l) up in
    c.div_ceil.ensures ∙ ap₂ div_ceil d r ∙ ceiling_is (distance l) (plus (read l)) (omega (arith, le_no (read l) (pos 0) t))
