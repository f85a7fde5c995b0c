use Prim.Native.Nat.{ℕ, ◌+◌, ◌^◌, ◌<◌, ◌≤◌}
use mathlib.Core.Path.{◌≡◌, refl, ap}
use mathlib.Core.List.{[], ◌∷◌, append_assoc}
use lib.ListN.{length}
use lib.Seq.{sets}
use mir.Facts.{to_z-of_z}
use Rattle.word.specs.End.{feed}
use Rattle.word.specs.Decimal.{shown, decimal}
use Rattle.word.proofs.Shows.{shown_room, decimal_room_lem}
use Rattle.answer.specs.Verdict.{answer_room}
use Rattle.answer.specs.Journal.{code_key, output_key, last_key, answer_text}
use Rattle.word.proofs.Puts.{Puts, puts_none, puts_more, puts_all, code_room}
use native.Mathlib.Omega.{arith}
use Rattle.answer.proofs.journal.put_answer.Goals as goal
use Rattle.answer.proofs.journal.put_answer.Goals.{After-put_decimal-2, After-put_decimal, After-put_decimal-3}

-- how many bytes are put at most
few : (c : After-put_decimal) → c.put_decimal.result ≤ 3
few c = rw c.put_decimal.ensures.value (code_room c.args.code c.ranges.code.fits)

-- no place passes 64 bits
all_fit : (c : After-put_decimal) → c.args.at + answer_room < 2 ^ 64
all_fit c = omega arith

told : (c : After-put_decimal-2) →
    (c.put_decimal-2.result ≡ length (decimal c.args.output)) × (c.put_decimal-2.new.buffer ≡ sets c.put-2.new.buffer (c.args.at + 6 + c.put_decimal.result + 8) (decimal c.args.output))
told c = (rw (to_z-of_z c.ranges.output) at c.put_decimal-2.ensures.value, rw (to_z-of_z c.ranges.output) at c.put_decimal-2.ensures.buffer_after)

few_2 : (c : After-put_decimal-2) → c.put_decimal-2.result ≤ 11
few_2 c = rw (told c).0 (decimal_room_lem c.args.output c.ranges.output)

few_3 : (c : After-put_decimal-3) → c.put_decimal-3.result ≤ 10
few_3 c = rw c.put_decimal-3.ensures.value (shown_room c.args.last c.ranges.last.fits)

pub overflow_add-code_end-2 : goal.overflow_add-code_end-2
overflow_add-code_end-2 c = let x = few (goal.at.overflow_add-code_end-2 c).After-put_decimal in omega arith

pub overflow_add-output_end : goal.overflow_add-output_end
overflow_add-output_end c = let x = few (goal.at.overflow_add-output_end c).After-put_decimal in omega arith

pub overflow_add-code_end-3 : goal.overflow_add-code_end-3
overflow_add-code_end-3 c = let x = few (goal.at.overflow_add-code_end-3 c).After-put_decimal in omega arith

pub overflow_add-output_end-2 : goal.overflow_add-output_end-2
overflow_add-output_end-2 c = let x = few (goal.at.overflow_add-output_end-2 c).After-put_decimal in let y = few_2 (goal.at.overflow_add-output_end-2 c).After-put_decimal-2 in omega arith

pub overflow_add-last_end : goal.overflow_add-last_end
overflow_add-last_end c = let x = few (goal.at.overflow_add-last_end c).After-put_decimal in let y = few_2 (goal.at.overflow_add-last_end c).After-put_decimal-2 in omega arith

pub overflow_add-output_end-3 : goal.overflow_add-output_end-3
overflow_add-output_end-3 c = let x = few (goal.at.overflow_add-output_end-3 c).After-put_decimal in let y = few_2 (goal.at.overflow_add-output_end-3 c).After-put_decimal-2 in omega arith

pub overflow_add-last_end-2 : goal.overflow_add-last_end-2
overflow_add-last_end-2 c = let x = few (goal.at.overflow_add-last_end-2 c).After-put_decimal in let y = few_2 (goal.at.overflow_add-last_end-2 c).After-put_decimal-2 in let z = few_3 (goal.at.overflow_add-last_end-2 c).After-put_decimal-3 in omega arith

pub overflow_add-result : goal.overflow_add-result
overflow_add-result c = let x = few (goal.at.overflow_add-result c).After-put_decimal in let y = few_2 (goal.at.overflow_add-result c).After-put_decimal-2 in let z = few_3 (goal.at.overflow_add-result c).After-put_decimal-3 in let h = all_fit (goal.at.overflow_add-result c).After-put_decimal in omega arith

pub returns-clause-value : goal.returns-clause-value
unfolding answer_text
returns-clause-value c =
    let at = c.args.at in
    let a = at + 6 + c.put_decimal.result in
    let b = a + 8 + c.put_decimal-2.result in
    let q1 : Puts c.args.out.now at code_key _ (at + 6) = puts_more puts_none code_key c.put.ensures refl in
    let q2 = puts_more q1 (shown c.args.code) c.put_decimal.ensures.buffer_after (ap (λ (n : ℕ). at + 6 + n) c.put_decimal.ensures.value) in
    let q3 : Puts c.args.out.now at _ _ (a + 8) = puts_more q2 output_key c.put-2.ensures refl in
    let q4 = puts_more q3 (decimal c.args.output) (told (goal.at.returns-clause-value c).After-put_decimal-2).1 (ap (λ (n : ℕ). a + 8 + n) (told (goal.at.returns-clause-value c).After-put_decimal-2).0) in
    let q5 : Puts c.args.out.now at _ _ (b + 6) = puts_more q4 last_key c.put-3.ensures refl in
    let q6 = puts_more q5 (shown c.args.last) c.put_decimal-3.ensures.buffer_after (ap (λ (n : ℕ). b + 6 + n) c.put_decimal-3.ensures.value) in
    let q7 = puts_more q6 (feed ∷ []) c.put-4.ensures refl in
    let g = puts_all q7 (answer_text c.args.code c.args.output c.args.last) (simp append_assoc) in
    let x = few (goal.at.returns-clause-value c).After-put_decimal in
    let y = few_2 (goal.at.returns-clause-value c).After-put_decimal-2 in
    let z = few_3 (goal.at.returns-clause-value c).After-put_decimal-3 in
    (g.0, omega arith)

pub returns-clause-out_after : goal.returns-clause-out_after
unfolding answer_text
returns-clause-out_after c =
    let at = c.args.at in
    let a = at + 6 + c.put_decimal.result in
    let b = a + 8 + c.put_decimal-2.result in
    let q1 : Puts c.args.out.now at code_key _ (at + 6) = puts_more puts_none code_key c.put.ensures refl in
    let q2 = puts_more q1 (shown c.args.code) c.put_decimal.ensures.buffer_after (ap (λ (n : ℕ). at + 6 + n) c.put_decimal.ensures.value) in
    let q3 : Puts c.args.out.now at _ _ (a + 8) = puts_more q2 output_key c.put-2.ensures refl in
    let q4 = puts_more q3 (decimal c.args.output) (told (goal.at.returns-clause-out_after c).After-put_decimal-2).1 (ap (λ (n : ℕ). a + 8 + n) (told (goal.at.returns-clause-out_after c).After-put_decimal-2).0) in
    let q5 : Puts c.args.out.now at _ _ (b + 6) = puts_more q4 last_key c.put-3.ensures refl in
    let q6 = puts_more q5 (shown c.args.last) c.put_decimal-3.ensures.buffer_after (ap (λ (n : ℕ). b + 6 + n) c.put_decimal-3.ensures.value) in
    let q7 = puts_more q6 (feed ∷ []) c.put-4.ensures refl in
    let g = puts_all q7 (answer_text c.args.code c.args.output c.args.last) (simp append_assoc) in
    let x = few (goal.at.returns-clause-out_after c).After-put_decimal in
    let y = few_2 (goal.at.returns-clause-out_after c).After-put_decimal-2 in
    let z = few_3 (goal.at.returns-clause-out_after c).After-put_decimal-3 in
    g.1
