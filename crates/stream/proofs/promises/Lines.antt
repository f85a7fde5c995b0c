-- What is written of a whole file is what 01 says of its lines, one by one: each is judged as one delivery, and "the first
-- refusal ends it". Every file is its lines, each with its line feed, and a rest without one.
use Prim.Native.Nat.{ℕ, ◌+◌, ◌<◌, ◌≤◌}
use mathlib.Core.Path.{◌≡◌, refl, sym, ap, ap₂, ◌∙◌}
use mathlib.Core.Bool.{Bool, true, false, cond, ◌&&◌, ◌||◌}
use mathlib.Core.List.{List, [], ◌∷◌, ◌++◌, append-nil, append_assoc}
use native.Mathlib.Omega.{arith}
use borrow.Author.Tests.{ltb-true, ltb-false, ne_eqb, eq-eqb}
use lib.Dec.{eqb, ltb}
use lib.ListN.{length, length-drop}
use Rattle.whole.proofs.Truth.{both, by_test, chosen, cond_yes, cond_no}
use Rattle.delivery.specs.declared.numbered.Numbered.{Numbered}
use Rattle.delivery.specs.Numbered.{blank_of}
use Rattle.word.specs.End.{feed}
use Rattle.std.specs.Prelude.{None}
use Rattle.word.specs.Decimal.{most_digits, is_size, has_minus, unsigned, decimal_of}
use Rattle.text.specs.Reader.{read_text}
use Rattle.word.proofs.Digits.{sized, no_size}
use Rattle.answer.specs.Verdict.{Verdict, refused}
use Rattle.answer.specs.Oven.{by_decimal, sample_line}
use Rattle.answer.specs.declared.judge.Lines.{Lines}
use Rattle.answer.specs.declared.judge.Lines.TheVariants.{Samples}
use Rattle.answer.specs.Judge.{judged_by}
use Rattle.stream.specs.declared.run.Run.{Run}
use Rattle.stream.specs.Part.{line_most}
use Rattle.stream.specs.Run.{Step, refused_line, over_of, following, next_of, line_step}
use Rattle.stream.specs.Feed.{after, written, plain, grown_of, line_of, finishing}
use Rattle.stream.specs.Start.{first_loop, start_of, begun_by, run_over, output_of}
use Rattle.stream.proofs.promises.Cut.{cut_after, cut_written}
use Rattle.stream.proofs.Line.{over_passing, grown_word, part_passing, line_passing}

-- ---- the file, line by line

abbrev pub all_plain : List (List ℕ) → Bool
all_plain [] = true
all_plain (w ∷ ws) = plain w && all_plain ws

-- the lines, each with its line feed, and a rest without one
abbrev pub file_of : List (List ℕ) → List ℕ → List ℕ
file_of [] rest = rest
file_of (w ∷ ws) rest = w ++ (feed ∷ file_of ws rest)

-- a line of more than 80 bytes is longer than any well-formed one
abbrev pub judged_line : Lines → Numbered → List ℕ → Verdict
judged_line lines l w = cond (ltb line_most (length w)) (refused l 14) (judged_by lines l w)

-- "The first refusal ends it": what is written of line n, where next says what the lines after it lead to
abbrev pub told_by : ℕ → (Numbered → List ℕ) → Verdict → List ℕ
told_by n next v = cond (eqb v.code 0) (v.text ++ next v.state) (refused_line v.code n)

-- "or a last one without its line feed, is 14"
abbrev pub rest_told : ℕ → List ℕ → List ℕ
rest_told n [] = []
rest_told n (b ∷ w) = refused_line 14 n

abbrev pub told : Lines → Numbered → ℕ → List (List ℕ) → List ℕ → List ℕ
told lines l n [] rest = rest_told n rest
told lines l n (w ∷ ws) rest = told_by n (λ (m : Numbered). told lines m (following n) ws rest) (judged_line lines l w)

-- ---- the whole file

-- a run at the start of a line
pub record Ready (r : Run) : Type 0 where
  pub going : r.ended ≡ false
  pub none : r.part.len ≡ 0
  pub room : length r.part.bytes ≡ line_most

-- what is written where the file ends after a step
closing : Step → List ℕ
closing t = t.text ++ (finishing t.run).text

-- what follows a part of the file
run_cut : (r : Run) (a b : List ℕ) → run_over r (a ++ b) ≡ written r a ++ run_over (after r a) b
run_cut r a b =
    ap₂ (λ (x : List ℕ) (y : Run). x ++ (finishing y).text) (cut_written r a b) (cut_after r a b)
    ∙ append_assoc (written r a) (written (after r a) b) (finishing (after (after r a) b)).text

-- a run that has ended
finish_over : (r : Run) → r.ended ≡ true → (finishing r).text ≡ []
unfolding finishing
finish_over r e = ap (λ (t : Step). t.text) (cond_yes _ _ (ap (λ (b : Bool). b || eqb r.part.len 0) e))

over_quiet : (r : Run) (s : List ℕ) → r.ended ≡ true → run_over r s ≡ []
unfolding closing
over_quiet r s e = ap closing (over_passing r s e) ∙ finish_over r e

-- a rest without its line feed
finish_open : (r : Run) → r.ended ≡ false → (r.part.len ≡ 0 → ⊥) → (finishing r).text ≡ refused_line 14 r.line
unfolding finishing
finish_open r e h = ap (λ (t : Step). t.text) (cond_no _ _ (ap (λ (b : Bool). b || eqb r.part.len 0) e ∙ ne_eqb r.part.len 0 h))

rest_told_lem : (r : Run) (rest : List ℕ) → Ready r → plain rest ≡ true → run_over r rest ≡ rest_told r.line rest
unfolding finishing closing line_of
rest_told_lem r [] g p = ap (λ (t : Step). t.text) (cond_yes _ _ (ap₂ ◌||◌ g.going (eq-eqb r.part.len 0 g.none)))
rest_told_lem r (b ∷ w) g p =
    ap closing (part_passing r (b ∷ w) p (omega arith) ∙ cond_no _ _ g.going)
    ∙ chosen (λ (t : Step). closing t ≡ refused_line 14 r.line) (ltb line_most (r.part.len + length (b ∷ w)))
    (λ _. append-nil (refused_line 14 r.line))
    (λ _. finish_open (grown_of r (b ∷ w)) g.going (λ q. omega (arith, q)))

-- a line with its line feed
ready_line : (r : Run) (w : List ℕ) → Ready r → line_of r w true ≡ line_step r (judged_line r.lines r.state w)
unfolding line_of
ready_line r w g =
    let n : r.part.len + length w ≡ length w = omega (arith, g.none) in
    cond_no _ _ g.going
    ∙ by_test (ltb line_most (length w))
    (λ t. cond_yes _ _ (ap (ltb line_most) n ∙ t) ∙ sym (ap (line_step r) (cond_yes _ _ t)))
    (λ t. cond_no _ _ (ap (ltb line_most) n ∙ t)
    ∙ ap (λ (x : List ℕ). line_step r (judged_by r.lines r.state x)) (grown_word r w g.none g.room (ltb-false line_most (length w) t))
    ∙ sym (ap (line_step r) (cond_no _ _ t)))

next_ready : (r : Run) (l : Numbered) → Ready r → Ready (next_of r l)
next_ready r l g = record { going = g.going; none = refl; room = refl }

module _ (rest : List ℕ) (p : plain rest ≡ true) where
  -- what a judged line leads to, where the lines after it are told as next says
  line_told : (r : Run) (ws : List (List ℕ)) (v : Verdict) →
      ((l : Numbered) → run_over (next_of r l) (file_of ws rest) ≡ told r.lines l (following r.line) ws rest) →
      (line_step r v).text ++ run_over (line_step r v).run (file_of ws rest)
      ≡ told_by r.line (λ (l : Numbered). told r.lines l (following r.line) ws rest) v
  line_told r ws v f =
      let s = file_of ws rest in
      let t = refused_line v.code r.line in
      by_test (eqb v.code 0)
      (λ e. ap (λ (x : Step). x.text ++ run_over x.run s) (cond_yes _ _ e) ∙ ap (λ (x : List ℕ). v.text ++ x) (f v.state) ∙ sym (cond_yes _ _ e))
      (λ e. ap (λ (x : Step). x.text ++ run_over x.run s) (cond_no _ _ e) ∙ ap (λ (x : List ℕ). t ++ x) (over_quiet (over_of r) s refl) ∙ append-nil t ∙ sym (cond_no _ _ e))

  -- from the start of any line
  pub lines_told : (r : Run) (ws : List (List ℕ)) → Ready r → all_plain ws ≡ true →
      run_over r (file_of ws rest) ≡ told r.lines r.state r.line ws rest
  lines_told r [] g q = rest_told_lem r rest g p
  lines_told r (w ∷ ws) g q =
      let b = both (plain w) (all_plain ws) q in
      let s = file_of ws rest in
      ap (run_over r) (sym (append_assoc w (feed ∷ []) s))
      ∙ run_cut r (w ++ (feed ∷ [])) s
      ∙ ap (λ (x : Step). x.text ++ run_over x.run s) (line_passing r w b.0 ∙ ready_line r w g)
      ∙ line_told r ws (judged_line r.lines r.state w) (λ l. lines_told (next_of r l) ws (next_ready r l g) b.1)

-- ---- the whole program

-- "A refusal of the settings": its code and its line, whatever the file
pub settings_refused : (lines : Lines) (settings file : List ℕ) → ((read_text settings).code ≡ 0 → ⊥) →
    output_of lines settings file ≡ refused_line (read_text settings).code (read_text settings).line
unfolding output_of begun_by
settings_refused lines settings file h =
    let d = read_text settings in
    let r = start_of lines d.line blank_of in
    ap (λ (x : Step). x.text ++ run_over x.run file) (cond_no _ _ (ne_eqb d.code 0 h))
    ∙ ap (λ (x : List ℕ). refused_line d.code d.line ++ x) (over_quiet (over_of r) file refl)
    ∙ append-nil (refused_line d.code d.line)

-- else what the lines of the file lead to, from line 1 on
pub output_told : (lines : Lines) (settings : List ℕ) (ws : List (List ℕ)) (rest : List ℕ) → (read_text settings).code ≡ 0 →
    all_plain ws ≡ true → plain rest ≡ true →
    output_of lines settings (file_of ws rest) ≡ told lines (first_loop lines (read_text settings).settings) 1 ws rest
unfolding output_of begun_by
output_told lines settings ws rest e q p =
    let d = read_text settings in
    ap (λ (x : Step). x.text ++ run_over x.run (file_of ws rest)) (cond_yes _ _ (eq-eqb d.code 0 e))
    ∙ lines_told rest p (start_of lines 1 (first_loop lines d.settings)) ws (record { going = refl; none = refl; room = refl }) q

-- ---- a sample line of more than 80 bytes is no decimal: for 01's program the bound decides nothing

unsigned_long : (w : List ℕ) → length w ≤ length (unsigned w) + 1
unfolding unsigned
unsigned_long w =
    chosen (λ (x : List ℕ). length w ≤ length x + 1) (has_minus w) (λ _. rw length-drop (omega arith)) (λ _. omega arith)

long_wrong : (w : List ℕ) → line_most < length w → decimal_of w ≡ None
long_wrong w h =
    by_test (is_size most_digits (unsigned w)) (λ e. absurd (omega (arith, (sized most_digits (unsigned w) e).few, unsigned_long w))) (no_size w)

pub every_sample_line : (l : Numbered) (w : List ℕ) → judged_line Samples l w ≡ sample_line l w
unfolding sample_line
every_sample_line l w =
    by_test (ltb line_most (length w))
    (λ t. cond_yes _ _ t ∙ sym (ap (by_decimal l) (long_wrong w (ltb-true line_most (length w) t))))
    (λ t. cond_no _ _ t)
