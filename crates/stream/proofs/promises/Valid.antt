-- "Every loop the software makes keeps them": the loop of a run keeps the state rules from byte to byte, so that code 10 never shows.
use Prim.Native.Nat.{ℕ}
use mathlib.Core.Path.{◌≡◌, ap}
use mathlib.Core.Bool.{true}
use mathlib.Core.List.{List, [], ◌∷◌}
use borrow.Author.Tests.{eq-eqb}
use lib.Dec.{eqb, ltb}
use Rattle.whole.proofs.Truth.{chosen, cond_yes}
use Rattle.settings.specs.declared.Settings.{Settings}
use Rattle.settings.specs.Settings.{settings_refusal}
use Rattle.command.specs.declared.Command.TheVariants.{Automatic}
use Rattle.record.specs.Record.{Made, made_of}
use Rattle.delivery.specs.Numbered.{valid_of, made_of as numbered_of}
use Rattle.delivery.proofs.promises.Delivery.{made_valid, again_valid}
use Rattle.text.specs.Reader.{read_text}
use Rattle.word.specs.End.{feed}
use Rattle.answer.specs.declared.judge.Lines.{Lines}
use Rattle.answer.specs.declared.judge.Lines.TheVariants.{Samples, Deliveries}
use Rattle.answer.specs.Judge.{judged_by}
use Rattle.answer.proofs.promises.Verdict.{judged_valid}
use Rattle.stream.specs.declared.run.Run.{Run}
use Rattle.stream.specs.Part.{line_most}
use Rattle.stream.specs.Run.{Step, word_of, keeping}
use Rattle.stream.specs.Feed.{judging, byte_of, after}
use Rattle.stream.specs.Start.{first_loop, begun_by, beginning}
use Rattle.stream.proofs.Starts.{text_right}

abbrev Good : Step → Type 0
Good s = valid_of s.run.state ≡ true

module _ (r : Run) (v : valid_of r.state ≡ true) where
  judging_good : Good (judging r)
  unfolding judging
  judging_good =
      let j = judged_by r.lines r.state (word_of r) in
      chosen Good (ltb line_most r.part.len) (λ _. v)
      (λ _. chosen Good (eqb j.code 0) (λ _. judged_valid r.lines r.state v (word_of r)) (λ _. v))

  pub byte_valid : (b : ℕ) → valid_of (byte_of r b).run.state ≡ true
  unfolding byte_of keeping
  byte_valid b =
      chosen Good r.ended (λ _. v)
      (λ _. chosen Good (eqb b feed) (λ _. judging_good) (λ _. chosen Good (ltb r.part.len line_most) (λ _. v) (λ _. v)))

made_right : (s : Settings) → settings_refusal s ≡ 0 → (made_of s).code ≡ 0
unfolding made_of
made_right s e = ap (λ (m : Made). m.code) (cond_yes _ _ (eq-eqb (settings_refusal s) 0 e))

pub stays_valid : (r : Run) (s : List ℕ) → valid_of r.state ≡ true → valid_of (after r s).state ≡ true
stays_valid r [] v = v
stays_valid r (b ∷ s) v = stays_valid (byte_of r b).run s (byte_valid r v b)

first_valid : (lines : Lines) (s : Settings) → valid_of (numbered_of s).state ≡ true → valid_of (first_loop lines s) ≡ true
unfolding first_loop
first_valid Samples s v = again_valid _ 1 Automatic v
first_valid Deliveries s v = v

-- and the loop that a settings text makes keeps them
pub begun_valid : (lines : Lines) (s : List ℕ) → (read_text s).code ≡ 0 → valid_of (beginning lines s).run.state ≡ true
unfolding begun_by
begun_valid lines s e =
    let v = made_valid (read_text s).settings (made_right (read_text s).settings (text_right s e)) in
    rw (eq-eqb (read_text s).code 0 e) (first_valid lines (read_text s).settings v)
