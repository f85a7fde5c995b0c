use Prim.Native.Nat.{ℕ, ◌+◌, ◌-◌, ◌<◌, ◌≤◌}
use mathlib.Core.Path.{◌≡◌, sym, ap, ap₂, ◌∙◌}
use mathlib.Core.List.{List, [], ◌∷◌, ◌++◌, append-nil}
use native.Mathlib.Omega.{arith}
use borrow.Author.Tests.{lt-ltb, le-ltb}
use lib.ListN.{length, take, drop, length-drop}
use lib.Dec.{ltb}
use lib.Seq.{sets, take_all, length-take-le}
use borrow.Rule.Slice.PartMut.{put_mid}
use Rattle.whole.proofs.Lists.{part_left}
use Rattle.stream.specs.Feed.{line_of}
use Rattle.word.specs.End.{feed, end_at}
use Rattle.word.proofs.Words.{end_in}
use Rattle.word.proofs.Stores.{rest_back}
use Rattle.stream.proofs.Feeds.{feed_split, feed_plain, plain_to_end}
use Rattle.stream.proofs.Line.{part_passing, line_passing}
use Rattle.stream.proofs.Pieces.{passed_more, passed_all}
use borrow.Author.Rules.{rules}
use Rattle.stream.proofs.run.Run.pass.Goals as goal
use Rattle.stream.proofs.run.Run.pass.Goals.{After-take-told, Else-end-rest}

-- the line feed's place lies within the rest, or at its end
within : (n : ℕ) (s : List ℕ) → n ≡ end_at feed s → n ≤ length s
within n s e = omega (arith, e, end_in feed s)

-- what a line writes stands after what was written before it
stored : (c : After-take-told) →
    let l = c.loop-rest in
    let n = c.end_at-end.result in
    put_mid l.at (length l.out - l.at) l.out c.take-told.new.out
    ≡ sets l.out l.at (line_of l.run (take n l.rest.now) (ltb n (length l.rest.now))).text
stored c =
    let l = c.loop-rest in
    let n = c.end_at-end.result in
    ap (put_mid l.at (length l.out - l.at) l.out) c.take-told.ensures.holds ∙ rest_back l.out l.at (line_of l.run (take n l.rest.now) (ltb n (length l.rest.now))).text (omega (arith, c.loop-rest.invariant.0, c.loop-rest.invariant.1))

-- past the test the line feed is there
there : (c : Else-end-rest) → c.end_at-end.result < length c.loop-rest.rest.now
there c = omega (arith, within c.end_at-end.result c.loop-rest.rest.now c.end_at-end.ensures, c.if-end-rest.false)

-- how much is left after it
left : (n : ℕ) (s : List ℕ) → length (take (length s - (n + 1)) (drop (n + 1) s)) ≡ length s - (n + 1)
left n s = ap length (part_left s (n + 1)) ∙ length-drop (n + 1) s

pub slice_bounds-take-end : goal.slice_bounds-take-end
slice_bounds-take-end c = sym (length-take-le _ _ (within _ _ c.end_at-end.ensures))

pub returns-then-end-rest : goal.returns-then-end-rest
returns-then-end-rest c =
    let l = c.loop-rest in
    let s = l.rest.now in
    let n = c.end_at-end.result in
    let k = c.take-told.ensures in
    let h : 0 < length s = omega arith in
    let g : length s ≤ n = omega (arith, c.if-end-rest.true) in
    let f = part_passing l.run s (plain_to_end n s c.end_at-end.ensures c.if-end-rest.true) h ∙ sym (ap₂ (line_of l.run) (take_all n s g) (le-ltb n (length s) g)) in
    passed_all (omega (arith, k.few, l.invariant.1)) (passed_more s [] (sym (append-nil s)) f l.invariant.2 k.is (stored (goal.at.returns-then-end-rest c).After-take-told))

pub overflow_add-rest : goal.overflow_add-rest
overflow_add-rest c = omega (arith, there (goal.at.overflow_add-rest c).Else-end-rest)

pub slice_bounds-rest-count : goal.slice_bounds-rest-count
slice_bounds-rest-count c = omega (arith, there (goal.at.slice_bounds-rest-count c).Else-end-rest)

pub slice_bounds-rest-start : goal.slice_bounds-rest-start
slice_bounds-rest-start c = omega (arith, there (goal.at.slice_bounds-rest-start c).Else-end-rest)

pub loop-rest-preserved : goal.loop-rest-preserved
loop-rest-preserved c =
    let l = c.loop-rest in
    let n = c.end_at-end.result in
    let s = l.rest.now in
    let e = c.end_at-end.ensures in
    let h = there (goal.at.loop-rest-preserved c).Else-end-rest in
    let k = c.take-told.ensures in
    let d = feed_split n s e h ∙ ap (λ (x : List ℕ). (take n s ++ (feed ∷ [])) ++ x) (sym (part_left s (n + 1))) in
    let f = line_passing l.run (take n s) (feed_plain n s e) ∙ ap (line_of l.run (take n s)) (sym (lt-ltb n (length s) h)) in
    (search rules, omega (arith, k.few, l.invariant.1, left n s), passed_more (take n s ++ (feed ∷ [])) _ d f l.invariant.2 k.is (stored (goal.at.loop-rest-preserved c).After-take-told))
