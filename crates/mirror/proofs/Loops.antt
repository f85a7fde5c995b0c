-- Mirrored loops under the plain law: the state rules, the refusals, the commands.
use Prim.Native.Nat.{zero, suc}
use mathlib.Core.Path.{◌≡◌, refl}
use mathlib.Core.Bool.{true}
use native.Mathlib.Omega.{arith}
use lib.Dec.{eqb}
use lib.IntN.{ℤ, pos, negsuc}
use Rattle.whole.specs.Numbers.{plus, inside}
use Rattle.whole.proofs.Truth.{never, by_test, push}
use Rattle.whole.proofs.Parts.{zs, inside_yes}
use Rattle.whole.proofs.Negated.{neg_mul, inside_neg}
use Rattle.settings.specs.declared.Settings.{Settings}
use Rattle.settings.specs.Table.{reach}
use Rattle.command.specs.declared.Command.{Command}
use Rattle.command.specs.declared.Command.TheVariants.{Sample, Hold, Put, Automatic, Target, Set}
use Rattle.window.specs.Window.{fresh_window}
use Rattle.record.specs.declared.Loop.{Loop}
use Rattle.record.specs.Units.{F, B, fine_reach}
use Rattle.record.specs.Record.{fresh_of, guard_of, valid}
use Rattle.record.specs.Refusals.{refusal_of}
use Rattle.record.proofs.Rules.{Holds, holds_of, within_table}
use Rattle.pid.specs.Law.{sign_of, fixed_of, moving_of, read_at, sample_of, step_of, law_of}
use Rattle.pid.proofs.Sound.{fixed_ok}
use Rattle.pid.proofs.Shapes.{fixed_is}
use Rattle.mirror.specs.Mirror.{Mirror, of_action, of_temperatures, flip_temperature, flip_action, flip_settings, flip_command, flip_loop, flip_obeyed}
use Rattle.mirror.proofs.Settings.{range_neg, range_temperature, zero_temperature, table_mirror, ordered_mirror}
use Rattle.mirror.proofs.Guards.{code_mirror}
use Rattle.mirror.proofs.Windows.{window_mirror, taken_mirror, mean_mirror}
use Rattle.mirror.proofs.Samples.{flip_sign, flip_fixed, moved_mirror}

pub fresh_mirror : (k : Mirror) (s : Settings) → fresh_of (flip_settings k s) ≡ flip_loop k (fresh_of s)
unfolding fresh_window
fresh_mirror of_action s = refl
fresh_mirror of_temperatures s = refl

pub valid_mirror : (k : Mirror) (l : Loop) → valid (flip_loop k l) ≡ valid l
unfolding valid
valid_mirror k l =
    simp (table_mirror k l.settings, ordered_mirror k l.settings, range_temperature k reach l.w, range_temperature k reach l.target, inside_neg l.settings.lo l.settings.hi l.u, range_neg B l.integral, range_temperature k fine_reach l.y, zero_temperature k l.y, window_mirror k l.window, range_temperature k reach l.raw, zero_temperature k l.raw)

pub refusal_mirror : (k : Mirror) (l : Loop) (c : Command) → refusal_of (flip_loop k l) (flip_command k c) ≡ refusal_of l c
unfolding refusal_of
refusal_mirror k l (Sample pv) = code_mirror k (guard_of l) pv
refusal_mirror k l Hold = refl
refusal_mirror k l (Put x) = rw (inside_neg l.settings.lo l.settings.hi x)
refusal_mirror k l Automatic = refl
refusal_mirror k l (Target t r) = rw (range_temperature k reach t)
refusal_mirror k l (Set n) = refl

-- the other action has the other sign
sign_mirror : (k : Mirror) (a : ℤ) → inside (pos 0) (pos 1) a ≡ true → sign_of (flip_action k a) ≡ flip_sign k (sign_of a)
sign_mirror of_action (pos zero) e = refl
sign_mirror of_action (pos (suc zero)) e = refl
sign_mirror of_action (pos (suc (suc n))) e = let b = inside_yes (pos 0) (pos 1) (pos (suc (suc n))) e in absurd (omega (arith, zs))
sign_mirror of_action (negsuc n) e = never e
sign_mirror of_temperatures a e = refl

module _ (k : Mirror) (l : Loop) (h : Holds l) where
  fixed_mirror : fixed_of (flip_loop k l) ≡ flip_fixed k (fixed_of l)
  fixed_mirror =
      fixed_is (sign_mirror k l.settings.action (within_table l h).action)
      (neg_mul l.settings.hi (pos F)) (neg_mul l.settings.lo (pos F)) refl refl refl refl refl refl refl

  sample_mirror : (pv : ℤ) → sample_of (flip_loop k l) (flip_temperature k pv) ≡ flip_loop k (sample_of l pv)
  unfolding sample_of
  sample_mirror pv =
      let f = fixed_ok l h in
      let r = f.moves in
      let o = f.apart in
      rw (
        fixed_mirror,
        taken_mirror k l.window pv,
        mean_mirror k (plus l.settings.mean) l.window pv,
        moved_mirror k (fixed_of l) (moving_of l) (read_at l pv) (omega (arith, zs)) (omega (arith, zs)),
      )

  pub step_mirror : (c : Command) → step_of (flip_loop k l) (flip_command k c) ≡ flip_loop k (step_of l c)
  unfolding step_of
  step_mirror (Sample pv) = sample_mirror pv
  step_mirror Hold = refl
  step_mirror (Put x) = refl
  step_mirror Automatic = push (flip_loop k) l.automatic _ _
  step_mirror (Target t r) = refl
  step_mirror (Set n) = push (flip_loop k) (eqb l.set (plus n)) _ _

-- any command, from any record
pub law_mirror : (k : Mirror) (l : Loop) (c : Command) → law_of (flip_loop k l) (flip_command k c) ≡ flip_obeyed k (law_of l c)
unfolding law_of
law_mirror k l c =
    rw (valid_mirror k l, refusal_mirror k l c)
    (by_test (valid l)
    (λ v. rw (v, step_mirror k l (holds_of l v) c) (push (flip_obeyed k) (eqb (refusal_of l c) 0) _ _))
    (λ v. rw v))
