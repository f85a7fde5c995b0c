use Prim.Native.Nat.{◌+◌}
use mathlib.Core.Path.{◌≡◌, sym, ap, ◌∙◌}
use Rattle.whole.specs.Words.{bytes}
use Rattle.word.specs.End.{begins}
use Rattle.word.proofs.Words.{starts_begins}
use Rattle.settings.specs.Table.{firsts}
use Rattle.text.proofs.Texts.{kp0_after, has_neither, has_mean_alone, has_both}
use Rattle.text.proofs.reader.heads_in.Goals as goal
use Rattle.text.proofs.reader.heads_in.Goals.{After-starts_with, After-starts_with-2}

-- the first test, said of the text
told : (c : After-starts_with) → kp0_after c.args.text.now firsts ≡ c.starts_with.result
told c = sym (c.starts_with.ensures.value ∙ starts_begins (bytes "kp0") c.after_lines-after_rate.result.now ∙ ap (begins (bytes "kp0")) c.after_lines-after_rate.ensures)

-- the second
told_2 : (c : After-starts_with-2) → kp0_after c.args.text.now (firsts + 1) ≡ c.starts_with-2.result
told_2 c = sym (c.starts_with-2.ensures.value ∙ starts_begins (bytes "kp0") c.after_lines-after_mean.result.now ∙ ap (begins (bytes "kp0")) c.after_lines-after_mean.ensures)

pub returns-then-starts_with : goal.returns-then-starts_with
returns-then-starts_with c = sym (has_neither _ (told (goal.at.returns-then-starts_with c).After-starts_with ∙ c.if-starts_with.true))

pub returns-then-starts_with-2 : goal.returns-then-starts_with-2
returns-then-starts_with-2 c =
    let at = goal.at.returns-then-starts_with-2 c in
    sym (has_mean_alone _ (told at.After-starts_with ∙ c.if-starts_with.false) (told_2 at.After-starts_with-2 ∙ c.if-starts_with-2.true))

pub returns : goal.returns
returns c =
    let at = goal.at.returns c in
    sym (has_both _ (told at.After-starts_with ∙ c.if-starts_with.false) (told_2 at.After-starts_with-2 ∙ c.if-starts_with-2.false))
