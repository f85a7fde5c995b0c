-- DEMAND 1, of the plain law. "From any record that passes 01's state rules, power stays within the loop's limits and the
-- integral within 01's bound." "A refused call changes no loop."
use Rattle.std.proofs.Common.{Result}
use Rattle.std.specs.Bool.{⊤}
use mathlib.Core.Path.{◌≡◌, refl, ap, ap₂}
use mathlib.Core.Bool.{true, false}
use lib.IntN.{ℤ, pos, ◌-ℤ◌, ◌*ℤ◌}
use Rattle.whole.specs.Numbers.{Within, inside}
use Rattle.whole.proofs.Truth.{cond_no}
use Rattle.whole.proofs.Num.{nums, stays}
use Rattle.command.specs.declared.Command.{Command}
use Rattle.refusal.specs.declared.Refusal.{Refusal}
use Rattle.refusal.proofs.promises.Codes.{code_in_once}
use Rattle.record.specs.declared.After.{After}
use Rattle.record.specs.declared.Loop.{Loop}
use Rattle.record.specs.Units.{F}
use Rattle.record.specs.Record.{in_b, valid}
use Rattle.record.proofs.Rules.{holds_of}
use Rattle.pid.specs.Numbers.{Fixed}
use Rattle.pid.specs.Numbers.{Moving}
use Rattle.pid.specs.Numbers.{Sensed}
use Rattle.pid.specs.Units.{part, product}
use Rattle.settings.specs.Table.{reach, in_reach}
use Rattle.pid.specs.Sample.{sensed_of, share_of, v_of, limited_v}
use Rattle.pid.specs.Bounds.{FixedOk, MovingOk}
use Rattle.pid.specs.Run.{sensed_at}
use Rattle.pid.specs.Law.{Obeyed, obeyed_told, fixed_of, moving_of, read_at, law_of}
use Rattle.pid.proofs.Sound.{fixed_ok, moving_ok, read_in}
use Rattle.pid.proofs.Samples.{sensed_ok}
use Rattle.pid.proofs.Arithmetic.{limited_within}
use Rattle.pid.proofs.Kept.{step_valid, by_law}

-- the record that comes back keeps the state rules
pub again : (l : Loop) (c : Command) → valid l ≡ true → valid (law_of l c).state ≡ true
again l c v = by_law (λ (r : Obeyed). valid r.state ≡ true) l c (λ _. v) (step_valid l c) (λ _ _. v)

-- power within lo..hi
pub power_within : (l : Loop) (c : Command) → valid l ≡ true →
    inside (law_of l c).state.settings.lo (law_of l c).state.settings.hi (law_of l c).state.u ≡ true
power_within l c v = (holds_of (law_of l c).state (again l c v)).u

-- the integral within B
pub integral_within : (l : Loop) (c : Command) → valid l ≡ true → in_b (law_of l c).state.integral ≡ true
integral_within l c v = (holds_of (law_of l c).state (again l c v)).integral

-- "Every refusal hands back the record that came in."
pub refused_back : (l : Loop) (c : Command) → ((law_of l c).code ≡ 0 → ⊥) → (law_of l c).state ≡ l
refused_back l c =
    by_law (λ (r : Obeyed). (r.code ≡ 0 → ⊥) → r.state ≡ l) l c (λ _ _. refl) (λ _ _ f. absurd (f refl)) (λ _ _ _. refl)

-- a record that breaks a state rule gets 10
pub broken_ten : (l : Loop) (c : Command) → valid l ≡ false → law_of l c ≡ record { code = 10; state = l }
unfolding law_of
broken_ten l c v = cond_no _ _ v

-- ---- "All arithmetic fits in 64 bits": "Largest P, D and g: 8,388,608,000,000 each, so every product stays below
-- 2,800,000,000,000,000,000." The numbers of a sample pv in the loop l, with x = pv × F and z what its steps 1 to 3 find

pub record Fits (f : Fixed) (m : Moving) (z : Sensed) (x : ℤ) : Type 0 where
  pub p : Within part z.p
  pub d : Within part z.d
  pub g : Within part (share_of f z)
  pub follow : Within product ((x -ℤ m.y) *ℤ f.alpha)
  pub slope : Within product (f.kd *ℤ f.sign *ℤ (m.y -ℤ z.y))
  pub v : Within product (v_of f m z)
  pub excess : Within product (f.kt *ℤ (limited_v f m z -ℤ v_of f m z))

fits_of : (f : Fixed) (m : Moving) (pv : ℤ) → FixedOk f → MovingOk m → Within reach pv → Fits f m (sensed_of f m pv) (pv *ℤ pos F)
fits_of f m pv a b h =
    let c = sensed_ok f m pv a b h in
    let e = c.e in
    let p = c.p in
    let d = c.d in
    let y' = c.y in
    let y = b.y in
    let i = b.integral in
    let u = limited_within (v_of f m (sensed_of f m pv)) f.lo f.hi a.lo a.hi in
    let sign = a.sign in
    let ki = a.ki in
    let kd = a.kd in
    let alpha = a.alpha in
    let kt = a.kt in
    record {
      p = p;
      d = d;
      g = stays (search nums depth 12) tt;
      follow = stays (search nums depth 12) tt;
      slope = stays (search nums depth 12) tt;
      v = stays (search nums depth 12) tt;
      excess = stays (search nums depth 12) tt;
    }

pub all_fit : (l : Loop) (pv : ℤ) → valid l ≡ true → in_reach pv ≡ true → Fits (fixed_of l) (moving_of l) (sensed_at l pv) (read_at l pv *ℤ pos F)
all_fit l pv v e =
    let h = holds_of l v in
    fits_of (fixed_of l) (moving_of l) (read_at l pv) (fixed_ok l h) (moving_ok l h) (read_in l h pv e)

-- What an obeyed command tells leaves nothing of it out.
pub obeyed_once : (a b : After Loop) → obeyed_told a ≡ obeyed_told b → a ≡ b
obeyed_once a b e =
    ap₂ (λ (o : Result ⊤ Refusal) (l : Loop). record { outcome = o; state = l })
    (code_in_once a.outcome b.outcome (ap (λ (o : Obeyed). o.code) e))
    (ap (λ (o : Obeyed). o.state) e)
