use Prim.Native.Nat.{◌+◌}
use mathlib.Core.Path.{◌≡◌, refl, sym, ap, ◌∙◌}
use native.Mathlib.Nat.{zero-add}
use native.Mathlib.Omega.{arith}
use borrow.Author.Rules.{rules}
use lib.IntN.{pos}
use lib.ListN.{length, drop, get_or}
use lib.Seq.{sets}
use mir.Syntax.{w32}
use mir.Val.{SFits}
use mir.Facts.{to_z-of_z}
use Rattle.settings.specs.Table.{rows, no_row}
use Rattle.settings.specs.Settings.{values_of}
use Rattle.settings.proofs.Fit.{settings_fit}
use Rattle.settings.proofs.Rows.{values_long}
use Rattle.word.proofs.Stores.{rest_stored}
use Rattle.writer.specs.Lines.{line_of, lines_of}
use Rattle.writer.proofs.Writes.{line_short}
use Rattle.writer.proofs.Rows.{key_short, lines_next, lines_end, text_whole}
use Rattle.writer.proofs.put_lines.Goals as goal
use Rattle.writer.proofs.put_lines.Goals.{After-put_line-at}

-- the line that was put is that of row i
told : (c : After-put_line-at) →
    let l = c.loop-i in
    let line = line_of (get_or rows l.i no_row) (get_or (values_of c.args.settings) l.i (pos 0)) in
    (c.put_line-at.result ≡ l.at + length line) × (c.put_line-at.new.buffer ≡ sets l.buffer l.at line)
told c =
    let f : SFits w32 c.value.result = search rules in
    (rw (to_z-of_z f, c.at.ensures, c.value.ensures) at c.put_line-at.ensures.value, rw (to_z-of_z f, c.at.ensures, c.value.ensures) at c.put_line-at.ensures.buffer_after)

pub loop-i-init : goal.loop-i-init
loop-i-init c =
    let a = c.args in
    let t = text_whole a.settings in
    (refl, omega arith, ap length t ∙ sym (zero-add (length (lines_of rows (values_of a.settings)))), ap (sets a.buffer.now 0) t)

pub loop-i-preserved : goal.loop-i-preserved
loop-i-preserved c =
    let l = c.loop-i in
    let vs = values_of c.args.settings in
    let g : SFits w32 c.value.result = search rules in
    let f : SFits w32 (get_or vs l.i (pos 0)) = rw c.value.ensures at g in
    let t = told (goal.at.loop-i-preserved c).After-put_line-at in
    let n = lines_next vs l.i (omega (arith, c.loop-i-test.true)) (values_long c.args.settings (settings_fit c.args.settings c.well_formed.0).sets) in
    let r = get_or rows l.i no_row in
    let z = get_or vs l.i (pos 0) in
    let left = lines_of (drop (l.i + 1) rows) (drop (l.i + 1) vs) in
    let q = rest_stored l.buffer l.at (line_of r z) left n t.0 t.1 in
    let short = line_short r z (key_short l.i) f in (
      c.put_line-at.auto.buffer ∙ l.invariant.0,
      omega (arith, l.invariant.1),
      l.invariant.2 ∙ q.0,
      l.invariant.3 ∙ q.1,
    )

pub returns-clause-value : goal.returns-clause-value
returns-clause-value c =
    let l = c.loop-i in
    let vs = values_of c.args.settings in
    let e = lines_end (drop l.i vs) l.i c.loop-i-test.false in
    omega (arith, l.invariant.2, ap length e)

pub returns-clause-buffer_after : goal.returns-clause-buffer_after
returns-clause-buffer_after c =
    let l = c.loop-i in
    let vs = values_of c.args.settings in
    let e = lines_end (drop l.i vs) l.i c.loop-i-test.false in
    sym (l.invariant.3 ∙ ap (sets l.buffer l.at) e)
