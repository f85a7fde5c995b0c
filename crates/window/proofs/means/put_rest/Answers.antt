use Prim.Native.Nat.{ℕ, ◌+◌, ◌-◌, ◌≤◌, min}
use mathlib.Core.Path.{◌≡◌, refl, sym, ap, ◌∙◌}
use mathlib.Core.Bool.{true}
use mathlib.Core.List.{List, []}
use native.Mathlib.Omega.{arith}
use borrow.Author.Rules.{rules}
use lib.Dec.{lit<}
use lib.IntN.{ℤ, pos, negsuc, ◌+ℤ◌, ◌-ℤ◌}
use lib.ListN.{get_or, drop, take, set, length-set}
use lib.Seq.{sets}
use mir.Syntax.{w32, w64}
use mir.Val.{to_z, of_z}
use mir.Facts.{to_z-of_z}
use Rattle.whole.specs.Numbers.{Within}
use Rattle.whole.specs.Rounding.{nearest}
use Rattle.whole.proofs.Parts.{zs, inside_yes}
use Rattle.whole.proofs.Lin.{at}
use Rattle.whole.proofs.Num.{nums, num_in, num_back, fits, gives}
use Rattle.settings.specs.Table.{reach, window}
use Rattle.window.specs.Window.{sum_of}
use Rattle.temperature.specs.Temperature.{ranged}
use Rattle.window.specs.Means.{past_of}
use Rattle.window.specs.Running.{means_at}
use Rattle.window.specs.Bounds.{sum_reach}
use Rattle.window.proofs.Sums.{mean_ok, sum_reach_lem}
use Rattle.window.proofs.Ranged.{ranged_each, ranged_bits}
use Rattle.window.proofs.Taken.{means_turn, past_each, past_bits}
use Rattle.window.proofs.Runs.{slides}
use Rattle.window.proofs.means.put_rest.Goals as goal
use Rattle.window.proofs.means.put_rest.Goals.{In-loop-i}

-- the sum of a turn as it is computed
abbrev slid : ℤ → ℤ → ℤ → ℤ
slid sum new gone = to_z w32 (of_z w32 (to_z w32 (of_z w32 (sum +ℤ to_z w32 (of_z w32 new))) -ℤ to_z w32 (of_z w32 gone)))

slid_is : (sum new gone : ℤ) → Within sum_reach sum → Within reach new → Within reach gone → slid sum new gone ≡ sum +ℤ new -ℤ gone
slid_is sum new gone h f g = gives (search nums depth 20) tt refl

-- the sum of the last of the samples is small
past_small : (n i : ℕ) (s : List ℤ) → n ≤ window → ranged s ≡ true → Within sum_reach (sum_of (take n (past_of [] s i)))
past_small n i s h g =
    sum_reach_lem n (past_of [] s i) h (past_each _ _ [] s i (λ _. inside_yes (negsuc 999999) (pos reach) (pos 0) refl) (ranged_each s g))

-- the sum that a turn begins with, and the next
module _ (c : In-loop-i) where
  abbrev samples : List ℤ
  samples = c.args.samples.now

  abbrev most : ℕ
  most = c.args.most

  sum_now : to_z w32 c.loop-i.sum-bits ≡ sum_of (take most (past_of [] samples c.loop-i.i))
  sum_now = c.loop-i.invariant.3

  small : Within sum_reach (to_z w32 c.loop-i.sum-bits)
  small = rw sum_now (past_small most c.loop-i.i samples c.requires.0 c.requires.3)

  sample_in : (i : ℕ) → Within reach (get_or samples i (pos 0))
  sample_in i =
      let z = get_or samples i (pos 0) in
      let Z = at z in
      let b = ranged_each samples c.requires.3 i in
      let l = b.low in
      let h = b.high in
      omega (arith, zs)

  next : slid (to_z w32 c.loop-i.sum-bits) (get_or samples c.loop-i.i (pos 0)) (get_or samples (c.loop-i.i - most) (pos 0))
      ≡ sum_of (take most (past_of [] samples (c.loop-i.i + 1)))
  next =
      let l = c.loop-i in
      slid_is (to_z w32 l.sum-bits) _ _ small (sample_in l.i) (sample_in (l.i - most))
      ∙ ap (λ (z : ℤ). z +ℤ get_or samples l.i (pos 0) -ℤ get_or samples (l.i - most) (pos 0)) sum_now
      ∙ slides most l.i samples l.invariant.0

  next_small : Within sum_reach (sum_of (take most (past_of [] samples (c.loop-i.i + 1))))
  next_small = past_small most (c.loop-i.i + 1) samples c.requires.0 c.requires.3

  -- as it is handed on
  handed : to_z w64 (of_z w64 (slid (to_z w32 c.loop-i.sum-bits) (get_or samples c.loop-i.i (pos 0)) (get_or samples (c.loop-i.i - most) (pos 0))))
      ≡ sum_of (take most (past_of [] samples (c.loop-i.i + 1)))
  handed = rw next (gives (num_back (num_in next_small)) tt refl)

pub overflow_add-sum : goal.overflow_add-sum
overflow_add-sum c =
    let f = sample_in (goal.at.overflow_add-sum c).In-loop-i c.loop-i.i in
    let w = small (goal.at.overflow_add-sum c).In-loop-i in
    fits (search nums depth 12) tt

pub overflow_sub-sum-in-loop-i : goal.overflow_sub-sum-in-loop-i
overflow_sub-sum-in-loop-i c =
    let f = sample_in (goal.at.overflow_sub-sum-in-loop-i c).In-loop-i c.loop-i.i in
    let g = sample_in (goal.at.overflow_sub-sum-in-loop-i c).In-loop-i (c.loop-i.i - most (goal.at.overflow_sub-sum-in-loop-i c).In-loop-i) in
    let w = small (goal.at.overflow_sub-sum-in-loop-i c).In-loop-i in
    fits (search nums depth 20) tt

pub mean_of-requires : goal.mean_of-requires
mean_of-requires c =
    rw (handed (goal.at.mean_of-requires c).In-loop-i)
    (mean_ok (most (goal.at.mean_of-requires c).In-loop-i) _ c.requires.0 (past_bits [] (samples (goal.at.mean_of-requires c).In-loop-i) (c.loop-i.i + 1) (λ _. record { sfits = lit< tt }) (ranged_bits (samples (goal.at.mean_of-requires c).In-loop-i) c.requires.3)))

pub loop-i-preserved : goal.loop-i-preserved
loop-i-preserved c =
    let l = c.loop-i in
    let m = most (goal.at.loop-i-preserved c).In-loop-i in
    let more = c.loop-i-test.true in
    let k : min m (m + 1) ≡ m = omega arith in
    let all = past_of [] (samples (goal.at.loop-i-preserved c).In-loop-i) (l.i + 1) in
    let z : to_z w32 (of_z w32 c.mean_of.result) ≡ nearest (sum_of (take (min m (m + 1)) all)) (min m (m + 1)) =
    to_z-of_z {w = w32} (search rules)
    ∙ c.mean_of.ensures
    ∙ ap (λ (x : ℤ). nearest x m) (handed (goal.at.loop-i-preserved c).In-loop-i)
    ∙ ap (λ (j : ℕ). nearest (sum_of (take j all)) j) (sym k)
    in (
      omega (arith, l.invariant.0),
      omega (arith, more),
      simp length-set l.invariant.2,
      next (goal.at.loop-i-preserved c).In-loop-i,
      ap (λ (j : ℕ). sets (set l.out l.i (to_z w32 (of_z w32 c.mean_of.result))) (l.i + 1) (means_at m j all (drop (l.i + 1) (samples (goal.at.loop-i-preserved c).In-loop-i)))) (sym k)
          ∙ means_turn m m l.i [] (samples (goal.at.loop-i-preserved c).In-loop-i) l.out _ more z
          ∙ l.invariant.4,
    )
