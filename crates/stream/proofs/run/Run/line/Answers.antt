use Prim.Native.Nat.{ℕ, ◌≤◌}
use mathlib.Core.Path.{◌≡◌, sym, ap, ◌∙◌}
use mathlib.Core.List.{List}
use native.Mathlib.Omega.{arith}
use borrow.Author.Rules.{rules}
use borrow.Author.Tests.{eqb-true}
use lib.ListN.{length}
use Rattle.answer.specs.Judge.{judged_by}
use Rattle.stream.specs.Part.{line_most, held}
use Rattle.stream.specs.Run.{line_step}
use Rattle.stream.proofs.Steps.{step_by}
use Rattle.stream.proofs.Line.{grown_word}
use Rattle.stream.proofs.run.Run.line.Goals as goal

pub returns-then-is_empty : goal.returns-then-is_empty
returns-then-is_empty c =
    let r = c.args.self in
    let w = c.args.more.now in
    let n : length r.part.bytes ≡ line_most = search rules in
    let h : length w ≤ line_most = omega arith in
    let z = eqb-true r.part.len 0 (sym c.is_empty.ensures ∙ c.if-is_empty.true) in
    step_by (ap (λ (x : List ℕ). line_step r (judged_by r.lines r.state x)) (grown_word r w z n h)) c.judge.ensures

pub returns : goal.returns
returns c =
    let r = c.args.self in
    let p = c.as_slice.ensures ∙ ap held c.push.ensures in
    step_by (sym (ap (λ (w : List ℕ). line_step r (judged_by r.lines r.state w)) p)) c.judge-2.ensures
