use Prim.Native.Nat.{ℕ, ◌+◌}
use mathlib.Core.Path.{◌≡◌, refl, sym, ap, ◌∙◌}
use mathlib.Core.Bool.{true, false}
use mathlib.Core.List.{List, []}
use lib.Dec.{eqb}
use lib.ListN.{length, take, drop}
use lib.Pointwise.{pointwise}
use denote.Ref.{Bor}
use Rattle.std.specs.Prelude.{Option, Some, None}
use Rattle.std.specs.Option.{MatchOption, unwrap_or}
use Rattle.whole.proofs.Truth.{cond_yes, cond_no}
use Rattle.word.proofs.Words.{front_begins}
use Rattle.delivery_line.specs.Line.{field_in}
use Rattle.delivery_line.proofs.field.Goals as goal

after : (key word : List ℕ) (o : Option (Bor (List ℕ))) (none : Bor (List ℕ)) → none.now ≡ [] →
    MatchOption o (pointwise eqb (take (length key) word) key ≡ false)
    (λ x. (pointwise eqb (take (length key) word) key ≡ true) × (x.now ≡ drop (length key) word) × (length x.now + length key ≡ length word)) →
    (unwrap_or o none).now ≡ field_in key word
unfolding field_in
after key word None none e h = e ∙ sym (cond_no _ _ (sym (front_begins key word) ∙ h))
after key word (Some x) none e h = h.1 ∙ sym (cond_yes _ _ (sym (front_begins key word) ∙ h.0))

pub returns : goal.returns
returns c = ap (λ (x : Bor (List ℕ)). x.now) c.unwrap_or.ensures ∙ after c.args.key.now c.args.word.now c.strip_prefix.result _ refl c.strip_prefix.ensures.cases
