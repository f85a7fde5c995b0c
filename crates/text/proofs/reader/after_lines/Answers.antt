use Prim.Native.Nat.{ℕ, suc, ◌+◌, ◌-◌}
use mathlib.Core.Path.{◌≡◌, sym, ap, ◌∙◌}
use native.Mathlib.Omega.{arith}
use lib.ListN.{length, drop_of_length-le}
use Rattle.text.specs.Reader.{after_lines}
use Rattle.whole.proofs.Lists.{part_left}
use Rattle.word.specs.End.{feed}
use Rattle.word.proofs.Words.{end_in}
use Rattle.text.proofs.Texts.{part_line, after_shorter, no_feed, one_line}
use Rattle.text.proofs.reader.after_lines.Goals as goal

pub slice_bounds-result-count : goal.slice_bounds-result-count
slice_bounds-result-count c = omega (arith, end_in feed c.loop-line.rest.now, c.end_at-end.ensures)

pub slice_bounds-result-start : goal.slice_bounds-result-start
slice_bounds-result-start c = omega (arith, end_in feed c.loop-line.rest.now, c.end_at-end.ensures)

pub returns-then-rest-end : goal.returns-then-rest-end
returns-then-rest-end c =
    let l = c.loop-line in
    let a = c.args in
    let s = l.rest.now in
    let end = c.end_at-end.result in
    let e : a.n - l._line ≡ suc (a.n - (l._line + 1)) = omega (arith, c.loop-line-test.true) in
    part_left s end
    ∙ drop_of_length-le s {i = end} c.if-rest-end.true
    ∙ sym
    (l.invariant.1
    ∙ ap (λ (k : ℕ). after_lines k s) e
    ∙ no_feed (a.n - (l._line + 1)) s (omega (arith, c.if-rest-end.true, c.end_at-end.ensures)))

pub loop-line-preserved : goal.loop-line-preserved
loop-line-preserved c =
    let l = c.loop-line in
    let n = c.args.n in
    let s = l.rest.now in
    let i = c.loop-line-test.true in
    let p = part_line s c.end_at-end.result c.end_at-end.ensures in
    (omega (arith, ap length p, after_shorter s, l.invariant.0), l.invariant.1 ∙ one_line n l._line s i ∙ sym (ap (after_lines (n - (l._line + 1))) p))
