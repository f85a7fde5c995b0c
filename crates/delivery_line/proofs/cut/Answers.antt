use Prim.Native.Nat.{ℕ, ◌+◌, ◌≤◌, min}
use mathlib.Core.Path.{◌≡◌, sym, ap, ◌∙◌}
use native.Mathlib.Omega.{arith}
use mathlib.Core.List.{List}
use borrow.Author.Tests.{leb-true, leb-false}
use lib.Dec.{leb}
use lib.ListN.{length, take, drop, drop_of_length-le}
use lib.Seq.{length-take-le}
use Rattle.whole.proofs.Lists.{part_left}
use Rattle.whole.proofs.Truth.{by_test}
use Rattle.word.proofs.Words.{end_in}
use Rattle.delivery_line.specs.Line.{word_in, rest_in}
use Rattle.delivery_line.proofs.cut.Goals as goal

-- what is left past the end is nothing, as at the end
left : (s : List ℕ) (n m : ℕ) → m ≡ min (length s) n → drop m s ≡ drop n s
left s n m e =
    by_test (leb n (length s))
    (λ t. let h = leb-true n (length s) t in ap (λ (k : ℕ). drop k s) (omega (arith, h)))
    (λ t. let h = leb-false n (length s) t in drop_of_length-le s (omega (arith, h)) ∙ sym (drop_of_length-le s (omega (arith, h))))

pub slice_bounds-result-end : goal.slice_bounds-result-end
slice_bounds-result-end c =
    let s = c.args.text.now in
    let h : c.end_at-end.result ≤ length s = omega (arith, c.end_at-end.ensures, end_in 32 s) in
    sym (length-take-le _ _ h)

pub overflow_add-end : goal.overflow_add-end
overflow_add-end c = omega (arith, c.end_at-end.ensures, end_in 32 c.args.text.now)

pub returns-clause-front : goal.returns-clause-front
unfolding word_in
returns-clause-front c = ap (λ (n : ℕ). take n c.args.text.now) c.end_at-end.ensures

pub returns-clause-back : goal.returns-clause-back
unfolding rest_in
returns-clause-back c = part_left c.args.text.now c.min.result ∙ left c.args.text.now _ _ c.min.ensures ∙ ap (λ (n : ℕ). drop (n + 1) c.args.text.now) c.end_at-end.ensures
