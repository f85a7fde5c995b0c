use Prim.Native.Nat.{ℕ, ◌+◌, ◌≤◌, min}
use mathlib.Core.Path.{◌≡◌, refl, sym, ap, ap₂, ◌∙◌}
use mathlib.Core.List.{List, [], ◌∷◌, ◌++◌}
use native.Mathlib.Numerals.{add-one}
use native.Mathlib.Omega.{arith}
use borrow.Author.Rules.{rules}
use borrow.Author.Tests.{eqb-true, eqb-false}
use lib.IntN.{ℤ, pos}
use lib.ListN.{length, take, length-set}
use lib.Seq.{take-suc, take-suc-set, take_all}
use mir.Facts.{to_z-of_z}
use Rattle.settings.specs.Table.{window}
use Rattle.command.specs.Sequence.{after}
use Rattle.window.specs.Means.{after_all, past_of}
use Rattle.window.proofs.Fit.{window_fit}
use Rattle.window.proofs.Taken.{past_long, after_is}
use mir.Syntax.{w32}
use Rattle.window.proofs.Window.after.Goals as goal

none : (xs : List ℤ) → length xs ≡ 0 → xs ≡ []
none [] e = refl
none (x ∷ xs) e = absurd (omega arith)

seen_is : (seen n : ℕ) {before new : ℕ} → before ≡ min seen window → new ≡ min n window → min (before + new) window ≡ min window (seen + n)
seen_is seen n e f = omega arith

pub returns-then-is_empty : goal.returns-then-is_empty
unfolding after
returns-then-is_empty c =
    sym (ap (after_all c.args.self) (none c.args.samples.now (eqb-true (length c.args.samples.now) 0 (sym c.is_empty.ensures ∙ c.if-is_empty.true))))

pub loop-i-preserved : goal.loop-i-preserved
loop-i-preserved c =
    let l = c.loop-i in
    let all = past_of c.args.self.places c.args.samples.now (length c.args.samples.now) in
    let n = past_long c.args.self.places c.args.samples.now (length c.args.samples.now) in
    let w = (window_fit c.args.self c.well_formed.0).places in
    let m = c.loop-i-test.true in (
      simp length-set l.invariant.0,
      rw (add-one l.i)
          (take-suc-set l.place-items l.i _ (omega (arith, m, l.invariant.0))
          ∙ ap₂ (λ (xs : List ℤ) (x : ℤ). xs ++ (x ∷ [])) l.invariant.1 (to_z-of_z {w = w32} (search rules) ∙ c.past.ensures)
          ∙ sym (take-suc all l.i (pos 0) (omega (arith, m, n, w)))),
    )

pub returns : goal.returns
returns c =
    let l = c.loop-i in
    let a = c.args in
    let w = (window_fit a.self c.well_formed.0).places in
    let i : l.i ≡ window = omega (arith, c.loop-i-test.false, l.auto.i-end) in
    let n : 1 ≤ length a.samples.now = omega (arith, eqb-false (length a.samples.now) 0 (sym c.is_empty.ensures ∙ c.if-is_empty.false)) in
    let p : l.place-items ≡ take window (past_of a.self.places a.samples.now (length a.samples.now)) =
    sym (take_all window l.place-items (omega (arith, l.invariant.0))) ∙ rw i at l.invariant.1
    in
    ap₂ (λ (ps : List ℤ) (k : ℕ). record { places = ps; seen = k }) p
    (c.min-seen.ensures ∙ seen_is a.self.seen (length a.samples.now) c.min-before.ensures c.min.ensures)
    ∙ sym (after_is a.self a.samples.now w n)
