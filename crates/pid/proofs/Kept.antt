-- The state rules hold again after every command that the law accepts.
use mathlib.Core.Path.{◌≡◌, refl}
use mathlib.Core.Bool.{Bool, true, false, not, ◌&&◌, ◌||◌}
use native.Mathlib.Omega.{arith}
use borrow.Author.Tests.{eqb-true, eqb-false}
use lib.Dec.{eqb}
use lib.IntN.{ℤ}
use Rattle.whole.specs.Numbers.{inside}
use Rattle.whole.proofs.Truth.{and, chosen}
use Rattle.whole.proofs.Parts.{zs, yes_inside}
use Rattle.whole.proofs.Lin.{at}
use Rattle.command.specs.declared.Command.{Command}
use Rattle.command.specs.declared.Command.TheVariants.{Sample, Hold, Put, Automatic, Target, Set}
use Rattle.record.specs.declared.Loop.{Loop}
use Rattle.record.specs.Record.{guard_of, valid}
use Rattle.record.specs.Refusals.{refusal_of}
use Rattle.record.proofs.Rules.{Holds, valid_of_holds, holds_of}
use Rattle.record.proofs.Kept.{hold_holds, put_holds, automatic_holds, target_holds, set_holds}
use Rattle.pid.specs.Units.{rounded}
use Rattle.settings.specs.Table.{in_reach}
use Rattle.pid.specs.Sample.{limited, acted_of, moved_of}
use Rattle.pid.specs.Law.{Obeyed, fixed_of, moving_of, read_at, sample_of, step_of, law_of}
use Rattle.pid.specs.Bounds.{MovingOk}
use Rattle.temperature.proofs.Ranged.{taken_reach}
use Rattle.window.proofs.Rules.{taken_ok}
use Rattle.pid.proofs.Rounding.{rounded_between}
use Rattle.pid.proofs.Arithmetic.{limited_between}
use Rattle.pid.proofs.Sound.{range_in, read_in, fixed_ok, moving_ok}
use Rattle.pid.proofs.Samples.{sensed_ok, acted_ok}

-- "power stays within the loop's limits": a limited sum, rounded, lies in lo..hi
output_in : (l : Loop) (v : ℤ) → Holds l → inside l.settings.lo l.settings.hi (rounded (limited v (fixed_of l).lo (fixed_of l).hi)) ≡ true
output_in l v h =
    let lo = (fixed_of l).lo in
    let hi = (fixed_of l).hi in
    let L = at lo in
    let H = at hi in
    let a = (fixed_ok l h).apart in
    let b = limited_between v lo hi (omega (arith, zs)) in
    yes_inside l.settings.lo l.settings.hi _
    (rounded_between (limited v lo hi) l.settings.lo l.settings.hi b.low b.high)

sample_u : (l : Loop) (pv : ℤ) → Holds l → inside l.settings.lo l.settings.hi (sample_of l pv).u ≡ true
unfolding sample_of acted_of
sample_u l pv h =
    let P : ℤ → Type 0 = λ z. inside l.settings.lo l.settings.hi z ≡ true in
    chosen P l.automatic (λ _. chosen P l.pending (λ _. h.u) (λ _. output_in l _ h)) (λ _. h.u)

sample_pending : (a p : Bool) → (a || not (not a && p)) ≡ (a || not p)
sample_pending true p = refl
sample_pending false p = refl

sample_moving : (l : Loop) (pv : ℤ) → Holds l → in_reach pv ≡ true → MovingOk (moved_of (fixed_of l) (moving_of l) (read_at l pv))
sample_moving l pv h e =
    let f = fixed_ok l h in
    let m = moving_ok l h in
    acted_ok _ _ _ f m (sensed_ok _ _ _ f m (read_in l h pv e))

sample_holds : (l : Loop) (pv : ℤ) → Holds l → in_reach pv ≡ true → Holds (sample_of l pv)
unfolding sample_of acted_of
sample_holds l pv h e =
    let m = sample_moving l pv h e in
    record {
      table = h.table;
      order = h.order;
      w = range_in 999999 _ m.w;
      target = h.target;
      rate = h.rate;
      set = h.set;
      u = sample_u l pv h;
      integral = range_in 16842751999999 _ m.integral;
      y = range_in 65535999999 _ m.y;
      zero = refl;
      pending = rw (sample_pending l.automatic l.pending) h.pending;
      window = taken_ok l.window pv h.window e;
      raw = and e refl;
    }

pub step_holds : (l : Loop) (c : Command) → Holds l → refusal_of l c ≡ 0 → Holds (step_of l c)
unfolding refusal_of step_of
step_holds l (Sample pv) h e = sample_holds l pv h (taken_reach (guard_of l) pv e)
step_holds l Hold h e = hold_holds l h
step_holds l (Put x) h e = put_holds l h x e
step_holds l Automatic h e = automatic_holds l h
step_holds l (Target t r) h e = target_holds l h t r e
step_holds l (Set k) h e = set_holds l h k e

pub step_valid : (l : Loop) (c : Command) → valid l ≡ true → refusal_of l c ≡ 0 → valid (step_of l c) ≡ true
step_valid l c v e = valid_of_holds (step_of l c) (step_holds l c (holds_of l v) e)

-- the plain law's three answers
pub by_law : (P : Obeyed → Type 0) (l : Loop) (c : Command) →
    (valid l ≡ false → P (record { code = 10; state = l })) →
    (valid l ≡ true → refusal_of l c ≡ 0 → P (record { code = 0; state = step_of l c })) →
    (valid l ≡ true → (refusal_of l c ≡ 0 → ⊥) → P (record { code = refusal_of l c; state = l })) →
    P (law_of l c)
unfolding law_of
by_law P l c broken done refused =
    chosen P (valid l)
    (λ v. chosen P (eqb (refusal_of l c) 0) (λ e. done v (eqb-true (refusal_of l c) 0 e)) (λ e. refused v (eqb-false (refusal_of l c) 0 e)))
    broken
