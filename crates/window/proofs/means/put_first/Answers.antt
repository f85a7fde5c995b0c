use Prim.Native.Nat.{ℕ, ◌+◌, ◌≤◌, min}
use mathlib.Core.Path.{◌≡◌, refl, sym, ap, ap₂, ◌∙◌}
use mathlib.Core.List.{List}
use native.Mathlib.Omega.{arith}
use borrow.Author.Rules.{rules}
use lib.IntN.{ℤ}
use lib.ListN.{length, drop, take, set, length-set}
use lib.Seq.{sets, drop-length, take-length}
use mir.Syntax.{w32, w64}
use mir.Val.{to_z, of_z}
use mir.Facts.{to_z-of_z}
use Rattle.whole.specs.Rounding.{nearest}
use Rattle.whole.proofs.Num.{nums, gives}
use Rattle.window.specs.declared.means.Summed.{Summed}
use Rattle.window.specs.Window.{sum_of}
use Rattle.window.specs.Means.{past_of}
use Rattle.window.specs.Bounds.{Bits, summed_of, MeanOk}
use Rattle.window.specs.Running.{onto, counted_on, means_at}
use Rattle.window.proofs.Sums.{mean_ok, sum_within}
use Rattle.window.proofs.Taken.{means_turn, counted_turn, past_bits}
use Rattle.window.proofs.Runs.{past_onto}
use Rattle.settings.specs.Table.{window}
use Rattle.window.proofs.means.put_first.Goals as goal

-- the sum after a turn
module _ (most n i : ℕ) (places samples : List ℤ) (s : Summed) (e : s ≡ summed_of (min most (n + 1)) (past_of places samples (i + 1))) (few : most ≤ window) (f : Bits places) (g : Bits samples) where
  summed_ok : MeanOk s.sum s.n
  summed_ok = rw e (mean_ok (min most (n + 1)) _ (omega (arith, few)) (past_bits places samples (i + 1) f g))

  summed_held : to_z w64 (of_z w64 s.sum) ≡ s.sum
  summed_held = let w = sum_within summed_ok in gives (search nums depth 12) tt refl

pub loop-i-init : goal.loop-i-init
unfolding past_of
loop-i-init c =
    let k : MeanOk c.sum_of.result c.args.n = rw c.sum_of.ensures (mean_ok c.args.n c.args.places.now (omega (arith, c.requires.0, c.requires.1)) c.requires.4) in
    let w = sum_within k in
    let e : to_z w64 (of_z w64 c.sum_of.result) ≡ c.sum_of.result = gives (search nums depth 12) tt refl in (
      omega arith,
      refl,
      c.requires.0,
      ap (λ (z : ℤ). record { n = c.args.n; sum = z }) (e ∙ c.sum_of.ensures),
      refl,
      refl,
    )

pub mean_of-requires : goal.mean_of-requires
mean_of-requires c =
    let a = c.args in
    let l = c.loop-i in
    rw (summed_held a.most l.s.n l.i a.places.now a.samples.now _ c.next-s.ensures c.requires.1 c.requires.4 c.requires.5)
    (summed_ok a.most l.s.n l.i a.places.now a.samples.now _ c.next-s.ensures c.requires.1 c.requires.4 c.requires.5)

pub loop-i-preserved : goal.loop-i-preserved
loop-i-preserved c =
    let l = c.loop-i in
    let a = c.args in
    let more = c.loop-i-test.true in
    let then = min a.most (l.s.n + 1) in
    let n : c.next-s.result.n ≡ then = ap (λ (x : Summed). x.n) c.next-s.ensures in
    let all = past_of a.places.now a.samples.now (l.i + 1) in
    let rest = drop (l.i + 1) a.samples.now in
    -- the mean that is put
    let held = summed_held a.most l.s.n l.i a.places.now a.samples.now _ c.next-s.ensures c.requires.1 c.requires.4 c.requires.5 in
    let mean : to_z w32 (of_z w32 c.mean_of.result) ≡ nearest (sum_of (take then all)) then =
    to_z-of_z {w = w32} (search rules)
    ∙ c.mean_of.ensures
    ∙ ap₂ nearest (held ∙ ap (λ (x : Summed). x.sum) c.next-s.ensures) (ap (λ (x : Summed). x.n) c.next-s.ensures)
    in (
      omega (arith, more),
      simp length-set l.invariant.1,
      omega (arith, n),
      c.next-s.ensures ∙ ap (λ (k : ℕ). summed_of k all) (sym n),
      ap (λ (k : ℕ). counted_on a.most k rest) n ∙ counted_turn a.most l.s.n l.i a.samples.now more ∙ l.invariant.4,
      ap (λ (k : ℕ). sets (set l.out l.i (to_z w32 (of_z w32 c.mean_of.result))) (l.i + 1) (means_at a.most k all rest)) n
          ∙ means_turn a.most l.s.n l.i a.places.now a.samples.now l.out _ more mean
          ∙ l.invariant.5,
    )

pub returns-clause-value : goal.returns-clause-value
returns-clause-value c =
    let l = c.loop-i in
    let a = c.args in
    let s = a.samples.now in
    let i : l.i ≡ length s = omega (arith, c.loop-i-test.false, l.invariant.0) in
    let n = rw (i, drop-length s) at l.invariant.4 in
    let p = past_onto a.places.now s (length s) (omega arith) ∙ ap (onto a.places.now) (take-length s) in
    l.invariant.3 ∙ ap₂ summed_of n (ap (past_of a.places.now s) i ∙ p)
