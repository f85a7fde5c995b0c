use Prim.Native.Nat.{ℕ, ◌≤◌}
use mathlib.Core.Path.{◌≡◌, sym, ap, ◌∙◌}
use mathlib.Core.List.{List}
use native.Mathlib.Omega.{arith}
use lib.ListN.{length, take, replicate, length-take}
use lib.Seq.{sets}
use Rattle.std.specs.Prelude.{Ok}
use Rattle.std.proofs.lemmas.Result.{err_from_is_err_and}
use Rattle.settings.specs.Table.{heads, sets as every}
use Rattle.settings.specs.Settings.{settings_refusal}
use Rattle.settings.proofs.Fit.{settings_fit}
use Rattle.word.proofs.Stores.{front_stored, text_part}
use Rattle.writer.specs.Lines.{both_lines, full, text_of, longest_text}
use Rattle.writer.specs.Writer.{written_told}
use Rattle.writer.proofs.Writes.{settings_refused, too_short, fits_in, sound_long}
use Rattle.writer.proofs.write_settings.Goals as goal
use Rattle.writer.proofs.write_settings.Goals.{After-put_lines-len}

-- the space holds the text, whose length was answered, and nothing is wrong with the settings
record Held (len : ℕ) (space text : List ℕ) (code : ℕ) : Type 0 where
  sound : code ≡ 0
  long : len ≡ length text
  short : length text ≤ longest_text
  all : length space ≡ longest_text
  part : take len space ≡ text

held : (c : After-put_lines-len) → Held c.put_lines-len.result c.put_lines-len.new.buffer (text_of c.args.settings) (settings_refusal c.args.settings)
held c =
    let e : settings_refusal c.args.settings ≡ 0 = sym c.in_ok-check.ensures in
    let short = sound_long heads every c.args.settings both_lines full (settings_fit c.args.settings c.well_formed.0).sets e in
    let n = c.put_lines-len.ensures.value in
    record {
      sound = e;
      long = n;
      short = short;
      all = c.put_lines-len.auto.buffer;
      part = ap (take c.put_lines-len.result) c.put_lines-len.ensures.buffer_after ∙ text_part (replicate longest_text 0) (text_of c.args.settings) c.put_lines-len.result n short;
    }

pub returns-in_err-check : goal.returns-in_err-check
returns-in_err-check c =
    let a = c.args in
    let p = err_from_is_err_and c.from_residual.result c.from_residual.ensures.1 in
    let l = settings_refused a.settings a.buffer.now c.in_err-check.field-0.0 c.in_err-check.ensures in
    record { value = rw (p.1, p.2) l.says; buffer_after = l.holds }

pub returns-then-buffer-len : goal.returns-then-buffer-len
returns-then-buffer-len c =
    let a = c.args in
    let h = held (goal.at.returns-then-buffer-len c).After-put_lines-len in
    let l = too_short a.settings a.buffer.now h.sound (omega (arith, h)) in
    record { value = l.says; buffer_after = l.holds }

pub slice_bounds-space-end : goal.slice_bounds-space-end
slice_bounds-space-end c = omega (arith, held (goal.at.slice_bounds-space-end c).After-put_lines-len)

pub slice_bounds-put-end : goal.slice_bounds-put-end
slice_bounds-put-end c = let h = held (goal.at.slice_bounds-put-end c).After-put_lines-len in simp length-take (omega arith)

pub returns-clause-value : goal.returns-clause-value
returns-clause-value c =
    let a = c.args in
    let h = held (goal.at.returns-clause-value c).After-put_lines-len in
    let l = fits_in a.settings a.buffer.now h.sound (omega arith) in
    ap (λ (n : ℕ). written_told (Ok n)) h.long ∙ l.says

pub returns-clause-buffer_after : goal.returns-clause-buffer_after
returns-clause-buffer_after c =
    let a = c.args in
    let h = held (goal.at.returns-clause-buffer_after c).After-put_lines-len in
    let t = text_of a.settings in
    let fit : length t ≤ length a.buffer.now = omega arith in
    let l = fits_in a.settings a.buffer.now h.sound fit in
    c.put.ensures ∙ ap (sets a.buffer.now 0) h.part ∙ front_stored a.buffer.now t fit ∙ l.holds
