-- 02, request 12: how many samples remain, from any record that keeps the state rules.
use Prim.Native.Nat.{◌≤◌}
use mathlib.Core.Path.{◌≡◌}
use mathlib.Core.Bool.{true}
use native.Mathlib.Omega.{arith}
use lib.IntN.{pos, neg_ℤ, ◌-ℤ◌}
use Rattle.whole.specs.Numbers.{plus, Within}
use Rattle.whole.proofs.Parts.{zs, inside_yes}
use Rattle.whole.proofs.Lin.{Lin, at, lins}
use Rattle.settings.specs.Table.{reach, fastest}
use Rattle.record.specs.declared.Loop.{Loop}
use Rattle.record.specs.Record.{valid}
use Rattle.record.specs.Remaining.{distance, remaining_of}
use Rattle.record.proofs.Rules.{holds_of}
use Rattle.record.proofs.Ceiling.{ceiling_most}

-- 2,000,000 at most: from one end of the range to the other at rate 1
pub remaining_most : (l : Loop) → valid l ≡ true → remaining_of l ≤ fastest
unfolding remaining_of
remaining_most l v =
    let h = holds_of l v in
    let w = inside_yes (neg_ℤ (pos reach)) (pos reach) l.w h.w in
    let t = inside_yes (neg_ℤ (pos reach)) (pos reach) l.target h.target in
    let W = at l.w in
    let T = at l.target in
    let D : Lin (l.target -ℤ l.w) = search lins in
    let far : Within fastest (l.target -ℤ l.w) = omega (arith, zs) in
    let most = ceiling_most (distance l) (plus l.rate) in
    omega arith
