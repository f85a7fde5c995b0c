use Rattle.std.proofs.Common.{ℕ, ◌≤◌, eqb, ltb, cond, length, Option, Some, None, refl, sym, ap, ◌∙◌, ◌≡◌, arith, rules, tests}
use Rattle.std.specs.Option.{unwrap_or}
use Rattle.std.specs.List.{position_or_len}
use Rattle.std.proofs.lemmas.Iterator.{YieldsList-from_slice}
use Rattle.std.proofs.lemmas.Iterator.Search.{position_from_yields_List}
use Rattle.std.proofs.lemmas.List.Recursion.{is_position_or_len}
use borrow.Author.Tests.{ltb-false}
use Rattle.whole.proofs.Truth.{chosen}
use Rattle.word.specs.End.{end_at}
use Rattle.word.proofs.Words.{end_in}
use Rattle.word.proofs.end.end_at.Goals as goal

found : (p n : ℕ) → p ≤ n → unwrap_or (cond (ltb p n) (Some p) None) n ≡ p
found p n h = chosen (λ (o : Option ℕ). unwrap_or o n ≡ p) (ltb p n) (λ e. refl) (λ e. omega (arith, ltb-false p n e))

pub returns : goal.returns
returns c =
    let b = c.args.byte in
    let w = c.args.rest.now in
    let test = λ (x : ℕ). eqb x b in
    let p = position_from_yields_List test _ _ c.position.result c.position.ensures.ran (YieldsList-from_slice w cc) (λ x t q k. search (rules, tests)) in
    let e = is_position_or_len (end_at b) test refl (λ x xs. ap (cond (eqb x b) 0) (omega arith)) w in
    c.unwrap_or.ensures ∙ ap (λ (o : Option ℕ). unwrap_or o (length w)) p ∙ found (position_or_len test w) (length w) (rw e at (end_in b w)) ∙ sym e
