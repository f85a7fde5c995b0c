use Prim.Native.Nat.{ℕ, ◌+◌, ◌<◌, ◌≤◌}
use mathlib.Core.Path.{◌≡◌, sym, ap, ap₂, ◌∙◌}
use mathlib.Core.List.{List, [], ◌∷◌, ◌++◌}
use native.Mathlib.Omega.{arith}
use borrow.Author.Rules.{rules}
use lib.IntN.{ℤ}
use lib.ListN.{length, take, drop, get_or, set, length-set}
use mir.Syntax.{w32}
use mir.Val.{SFits, to_z, of_z}
use mir.Facts.{to_z-of_z}
use Rattle.std.proofs.Common.{Result, Ok, Err}
use Rattle.std.specs.Result.{MatchResult, IsErrAnd}
use Rattle.std.proofs.lemmas.Result.{err_from_is_err_and, MatchResult-weaker}
use Rattle.refusal.specs.declared.Refusal.{Refusal}
use Rattle.refusal.specs.Refusal.{code_for}
use Rattle.refusal.proofs.promises.Codes.{refused_not_0}
use Rattle.settings.specs.declared.table.Row.{Row}
use Rattle.settings.specs.declared.Settings.{Settings}
use Rattle.settings.specs.Table.{firsts, heads, sets, short_sets, lines_for, lines, rows_of, rows, picked, place_of, no_row}
use Rattle.settings.specs.Settings.{settings_of, completed, filled}
use Rattle.settings.proofs.Forms.{unread_completed, picked_long, picked_set, filled_picked}
use Rattle.text.specs.declared.reader.Fault.{Fault}
use Rattle.text.specs.Reader.{Line, line_code, line_value, line_told, line_read, refused, read_end, read_from, heads_in, sets_in, read_text}
use Rattle.word.specs.End.{end_at, feed}
use Rattle.whole.proofs.Lists.{set_take}
use Rattle.writer.proofs.Rows.{headed, gained, form_next, form_at, row_at, place_in}
use Rattle.text.proofs.Texts.{line_yes, feed_there, value_taken, part_line, after_shorter, heads_in_lem, sets_in_lem, read_with, line_refused, line_taken, lines_done}
use Rattle.text.proofs.reader.read.Goals as goal
use Rattle.text.proofs.reader.read.Goals.{After-sets_in-sets, In_ok-value}

-- the text has the lines of the first rows before the gain sets or of all, and of four gain sets or of all
record Parts (h k : ℕ) : Type 0 where
  low : firsts ≤ h
  high : h ≤ heads
  few : short_sets ≤ k
  most : k ≤ sets

head : (text : List ℕ) {h : ℕ} → h ≡ heads_in text → (firsts ≤ h) × (h ≤ heads)
head text e = rw e (headed _ (heads_in_lem text))

parts : (text : List ℕ) {h k : ℕ} → h ≡ heads_in text → k ≡ sets_in h text → Parts h k
parts text {h} e f =
    let a = head text e in
    let b = rw (← f) at (gained _ (sets_in_lem h text)) in
    record { low = a.0; high = a.1; few = b.0; most = b.1 }

module _ (h k i : ℕ) (w : Parts h k) (t : i < lines_for h k) where
  -- the line is one of the longest text's, and so is the place of its row
  inside : i < lines
  inside = omega arith

  placed : {at : ℕ} → at ≡ place_of h i → at < lines
  placed e = rw e (place_in h k i w.high w.most t)

  -- the row of line i, of those that the text has
  abbrev row : Row
  row = get_or (picked h (rows_of k)) i no_row

  -- the line that was read is that of this row
  told : {at : ℕ} {r : Row} {x : Line} (rest : List ℕ) → at ≡ place_of h i → r ≡ get_or rows at no_row → x ≡ line_read r rest → x ≡ line_read row rest
  told rest p e f =
      f
      ∙ ap (λ (q : Row). line_read q rest)
      (e ∙ ap (λ (j : ℕ). get_or rows j no_row) p ∙ sym (form_at h k w.high i w.most t ∙ row_at h i w.high))

  -- the invariant, with that row at the front
  turn : (vs : List ℤ) (text rest : List ℕ) → read_text text ≡ read_from h k (drop i (picked h (rows_of k))) (i + 1) (take i (picked h vs)) rest →
      read_text text ≡ read_from h k (row ∷ drop (i + 1) (picked h (rows_of k))) (i + 1) (take i (picked h vs)) rest
  turn vs text rest e = e ∙ ap (λ (rs : List Row). read_from h k rs (i + 1) (take i (picked h vs)) rest) (form_next h k w.high i t)

-- ---- a line that is accepted, and one that is refused

record Accepted (r : Row) (rest : List ℕ) (v : ℤ) : Type 0 where
  code : line_code r rest ≡ 0
  value : v ≡ line_value r rest

accepted : (r : Row) (rest : List ℕ) (v : ℤ) → line_told (Ok v) ≡ line_read r rest → Accepted r rest v
accepted r rest v e =
    let z = sym (ap (λ (l : Line). l.code) e) in
    record { code = z; value = value_taken r rest (record { code = 0; value = v }) e z }

-- the fault that a refusal makes
module _ (n : ℕ) (o : Result ℤ Refusal) (m : Result ℤ Fault) where
  abbrev Mapped : Type 0
  Mapped = MatchResult o (λ x. m ≡ Ok x) (λ e. m ≡ Err (record { refusal = e; line = n }))

  mapped : {P : Refusal → Fault → Type 0} → MatchResult o (λ x. m ≡ Ok x) (λ e. IsErrAnd m (P e)) →
      ((e : Refusal) (f : Fault) → P e f → f ≡ record { refusal = e; line = n }) → Mapped
  mapped h told = MatchResult-weaker o h (λ x p. p) (λ e p. let q = err_from_is_err_and m p in q.1 ∙ ap Err (told e q.0 q.2))

was_ok : (n : ℕ) (o : Result ℤ Refusal) (m : Result ℤ Fault) (v : ℤ) → m ≡ Ok v → Mapped n o m → o ≡ Ok v
was_ok n (Ok x) m v p h = cc
was_ok n (Err e) m v p h = cc

was_err : (n : ℕ) (o : Result ℤ Refusal) (m : Result ℤ Fault) (f : Fault) → m ≡ Err f → Mapped n o m → (o ≡ Err f.refusal) × (f.line ≡ n)
was_err n (Ok x) m f p h = (cc, cc)
was_err n (Err e) m f p h =
    let q : f ≡ record { refusal = e; line = n } = cc in
    (ap (λ (g : Fault). Err g.refusal) (sym q), ap (λ (g : Fault). g.line) q)

room : (r : Row) (rest : List ℕ) {end : ℕ} → end ≡ end_at feed rest → line_code r rest ≡ 0 → end < length rest
room r rest e z = omega (arith, e, feed_there rest (line_yes r rest z).closed)

-- ---- the turns

parts_at : (c : After-sets_in-sets) → Parts c.heads_in-h.result c.sets_in-sets.result
parts_at c = parts c.args.text.now c.heads_in-h.ensures c.sets_in-sets.ensures

good : (c : In_ok-value) → Accepted (get_or (picked c.heads_in-h.result (rows_of c.sets_in-sets.result)) c.loop-i.i no_row) c.loop-i.rest.now c.in_ok-value.value
good c =
    let t = mapped (c.loop-i.i + 1) c.read_line.result c.map_err.result c.map_err.ensures.cases (λ e f p. search rules) in
    let o = was_ok _ c.read_line.result c.map_err.result c.in_ok-value.value c.in_ok-value.was t in
    let w = parts c.args.text.now c.heads_in-h.ensures c.sets_in-sets.ensures in
    accepted _ _ _
    (ap line_told (sym o)
    ∙ told c.heads_in-h.result c.sets_in-sets.result c.loop-i.i w c.loop-i-test.true c.loop-i.rest.now c.place-at.ensures c.at.ensures c.read_line.ensures)

pub sets_in-sets-requires : goal.sets_in-sets-requires
sets_in-sets-requires c = (head c.args.text.now c.heads_in-h.ensures).1

pub overflow_mul-i-end : goal.overflow_mul-i-end
overflow_mul-i-end c = let w = parts_at (goal.at.overflow_mul-i-end c).After-sets_in-sets in omega arith

pub overflow_add-i-end : goal.overflow_add-i-end
overflow_add-i-end c = let w = parts_at (goal.at.overflow_add-i-end c).After-sets_in-sets in omega arith

pub loop-i-init : goal.loop-i-init
loop-i-init c =
    let h = c.heads_in-h.result in
    let w = parts_at (goal.at.loop-i-init c).After-sets_in-sets in
    let u = c.unread-values.ensures in (
      ap length u,
      omega arith,
      ap (λ (vs : List ℤ). completed h (picked h vs)) u ∙ unread_completed h w.low w.high ∙ sym u,
      read_with h c.sets_in-sets.result c.args.text.now (sym c.heads_in-h.ensures) (sym c.sets_in-sets.ensures),
    )

pub place-at-requires : goal.place-at-requires
place-at-requires c =
    let w = parts_at (goal.at.place-at-requires c).After-sets_in-sets in
    (w.high, omega (arith, inside c.heads_in-h.result c.sets_in-sets.result c.loop-i.i w c.loop-i-test.true))

pub returns-in_err-value : goal.returns-in_err-value
returns-in_err-value c =
    let l = c.loop-i in
    let h = c.heads_in-h.result in
    let k = c.sets_in-sets.result in
    let rs = picked h (rows_of k) in
    let r = get_or rs l.i no_row in
    let w = parts_at (goal.at.returns-in_err-value c).After-sets_in-sets in
    let f = c.in_err-value.field-0.0 in
    let p = err_from_is_err_and c.from_residual.result c.from_residual.ensures.1 in
    let t = mapped (l.i + 1) c.read_line.result c.map_err.result c.map_err.ensures.cases (λ e f p. search rules) in
    let o = was_err _ c.read_line.result c.map_err.result f c.in_err-value.was t in
    let e : code_for f.refusal ≡ line_code r l.rest.now = ap (λ (x : Line). x.code) (ap line_told (sym o.0) ∙ told h k l.i w c.loop-i-test.true l.rest.now c.place-at.ensures c.at.ensures c.read_line.ensures) in
    rw (p.1, p.2)
    (ap₂ refused e o.1
    ∙ sym
    (turn h k l.i w c.loop-i-test.true l.values c.args.text.now l.rest.now l.invariant.3
    ∙ line_refused h k (l.i + 1) (take l.i (picked h l.values)) l.rest.now r (drop (l.i + 1) rs) (λ z. refused_not_0 f.refusal (e ∙ z))))

pub offset_bounds-values-at : goal.offset_bounds-values-at
offset_bounds-values-at c =
    let w = parts_at (goal.at.offset_bounds-values-at c).After-sets_in-sets in
    omega (arith, placed c.heads_in-h.result c.sets_in-sets.result c.loop-i.i w c.loop-i-test.true c.place-at.ensures)

pub bounds-values-at : goal.bounds-values-at
bounds-values-at c =
    let w = parts_at (goal.at.bounds-values-at c).After-sets_in-sets in
    omega (arith, placed c.heads_in-h.result c.sets_in-sets.result c.loop-i.i w c.loop-i-test.true c.place-at.ensures)

pub overflow_add-rest : goal.overflow_add-rest
overflow_add-rest c =
    let g = good (goal.at.overflow_add-rest c).In_ok-value in
    omega (arith, room _ c.loop-i.rest.now c.end_at-end.ensures g.code, c.loop-i.invariant.1)

pub slice_bounds-rest-count : goal.slice_bounds-rest-count
slice_bounds-rest-count c =
    let g = good (goal.at.slice_bounds-rest-count c).In_ok-value in
    omega (arith, room _ c.loop-i.rest.now c.end_at-end.ensures g.code)

pub slice_bounds-rest-start : goal.slice_bounds-rest-start
slice_bounds-rest-start c =
    let g = good (goal.at.slice_bounds-rest-start c).In_ok-value in
    omega (arith, room _ c.loop-i.rest.now c.end_at-end.ensures g.code)

pub loop-i-preserved : goal.loop-i-preserved
loop-i-preserved c =
    let l = c.loop-i in
    let h = c.heads_in-h.result in
    let k = c.sets_in-sets.result in
    let w = parts_at (goal.at.loop-i-preserved c).After-sets_in-sets in
    let g = good (goal.at.loop-i-preserved c).In_ok-value in
    let rs = picked h (rows_of k) in
    let vs = l.values in
    let x = l.rest.now in
    let r = get_or rs l.i no_row in
    let f : SFits w32 c.in_ok-value.value = search rules in
    let p = part_line x c.end_at-end.result c.end_at-end.ensures in
    let i = c.loop-i-test.true in
    let z = to_z w32 (of_z w32 c.in_ok-value.value) in
    let q = picked_set h w.low w.high vs l.invariant.0 l.invariant.2 l.i z in
    let at : set vs c.place-at.result z ≡ set vs (place_of h l.i) z = ap (λ (j : ℕ). set vs j z) c.place-at.ensures in
    let n = picked_long h w.high vs (omega (arith, l.invariant.0)) in (
      simp length-set l.invariant.0,
      omega (arith, ap length p, after_shorter x, l.invariant.1),
      ap (λ (ws : List ℤ). completed h (picked h ws)) at ∙ q.1 ∙ sym at,
      turn h k l.i w i vs c.args.text.now x l.invariant.3
          ∙ line_taken h k (l.i + 1) (take l.i (picked h vs)) x r (drop (l.i + 1) rs) g.code
          ∙ sym
          (ap₂ (λ (ws : List ℤ) (y : List ℕ). read_from h k (drop (l.i + 1) rs) (l.i + 1 + 1) ws y)
          (ap (λ (ws : List ℤ). take (l.i + 1) (picked h ws)) at
          ∙ ap (take (l.i + 1)) q.0
          ∙ set_take (picked h vs) l.i z (omega (arith, i, n, l.invariant.0))
          ∙ ap (λ (y : ℤ). take l.i (picked h vs) ++ (y ∷ [])) (to_z-of_z f ∙ g.value))
          p),
    )

pub returns : goal.returns
returns c =
    let l = c.loop-i in
    let h = c.heads_in-h.result in
    let k = c.sets_in-sets.result in
    let w = parts_at (goal.at.returns c).After-sets_in-sets in
    let i : l.i ≡ lines_for h k = omega (arith, c.loop-i-test.false, l.auto.i-end) in
    let x = l.rest.now in
    c.read_end.ensures
    ∙ ap (λ (y : Settings). read_end y (length x))
    (c.filled.ensures
    ∙ ap (filled k) c.settings_of.ensures
    ∙ sym (filled_picked h w.low w.high l.values l.invariant.0 l.invariant.2 k (omega (arith, w.few)) w.most)
    ∙ ap (λ (n : ℕ). filled k (settings_of (completed h (take n (picked h l.values))))) (sym i))
    ∙ sym (l.invariant.3 ∙ lines_done h k (l.i + 1) (take l.i (picked h l.values)) x l.i w.high c.loop-i-test.false)
