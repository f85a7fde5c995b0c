use Prim.Native.Nat.{ℕ, ◌+◌, ◌≤◌}
use mathlib.Core.Path.{refl, ap}
use mathlib.Core.List.{[], ◌∷◌, append_assoc}
use Rattle.word.specs.End.{feed}
use Rattle.word.specs.Decimal.{shown}
use Rattle.word.proofs.Shows.{shown_room}
use Rattle.stream.specs.Run.{refused_word, refused_line}
use Rattle.word.proofs.Puts.{Puts, puts_none, puts_more, puts_all, code_room}
use native.Mathlib.Omega.{arith}
use Rattle.stream.proofs.run.put_refused.Goals as goal
use Rattle.stream.proofs.run.put_refused.Goals.{After-put_decimal, After-put_decimal-space}

-- how many digits are put at most
few : (c : After-put_decimal-space) → c.put_decimal-space.result ≤ 3
few c = rw c.put_decimal-space.ensures.value (code_room c.args.code c.ranges.code.fits)

few_2 : (c : After-put_decimal) → c.put_decimal.result ≤ 10
few_2 c = rw c.put_decimal.ensures.value (shown_room c.args.line c.ranges.line.fits)

pub overflow_add-space : goal.overflow_add-space
overflow_add-space c = let a = few (goal.at.overflow_add-space c).After-put_decimal-space in omega arith

pub overflow_add-end : goal.overflow_add-end
overflow_add-end c = let a = few (goal.at.overflow_add-end c).After-put_decimal-space in omega arith

pub overflow_add-space-2 : goal.overflow_add-space-2
overflow_add-space-2 c = let a = few (goal.at.overflow_add-space-2 c).After-put_decimal-space in omega arith

pub overflow_add-end-2 : goal.overflow_add-end-2
overflow_add-end-2 c = let a = few (goal.at.overflow_add-end-2 c).After-put_decimal-space in let b = few_2 (goal.at.overflow_add-end-2 c).After-put_decimal in omega arith

pub overflow_add-result : goal.overflow_add-result
overflow_add-result c = let a = few (goal.at.overflow_add-result c).After-put_decimal-space in let b = few_2 (goal.at.overflow_add-result c).After-put_decimal in omega arith

pub returns-clause-value : goal.returns-clause-value
unfolding refused_line
returns-clause-value c =
    let a : Puts c.args.out.now 0 refused_word _ 8 = puts_more puts_none refused_word c.put.ensures refl in
    let b = puts_more a (shown c.args.code) c.put_decimal-space.ensures.buffer_after (ap (λ (n : ℕ). 8 + n) c.put_decimal-space.ensures.value) in
    let d = puts_more b (32 ∷ []) c.put-2.ensures refl in
    let e = puts_more d (shown c.args.line) c.put_decimal.ensures.buffer_after (ap (λ (n : ℕ). 8 + c.put_decimal-space.result + 1 + n) c.put_decimal.ensures.value) in
    let f = puts_more e (feed ∷ []) c.put-3.ensures refl in
    let g = puts_all f (refused_line c.args.code c.args.line) (simp append_assoc) in
    let x = few (goal.at.returns-clause-value c).After-put_decimal-space in
    let y = few_2 (goal.at.returns-clause-value c).After-put_decimal in
    (omega (arith, g.0), omega arith)

pub returns-clause-out_after : goal.returns-clause-out_after
unfolding refused_line
returns-clause-out_after c =
    let a : Puts c.args.out.now 0 refused_word _ 8 = puts_more puts_none refused_word c.put.ensures refl in
    let b = puts_more a (shown c.args.code) c.put_decimal-space.ensures.buffer_after (ap (λ (n : ℕ). 8 + n) c.put_decimal-space.ensures.value) in
    let d = puts_more b (32 ∷ []) c.put-2.ensures refl in
    let e = puts_more d (shown c.args.line) c.put_decimal.ensures.buffer_after (ap (λ (n : ℕ). 8 + c.put_decimal-space.result + 1 + n) c.put_decimal.ensures.value) in
    let f = puts_more e (feed ∷ []) c.put-3.ensures refl in
    let g = puts_all f (refused_line c.args.code c.args.line) (simp append_assoc) in
    let x = few (goal.at.returns-clause-out_after c).After-put_decimal-space in
    let y = few_2 (goal.at.returns-clause-out_after c).After-put_decimal in
    g.1
