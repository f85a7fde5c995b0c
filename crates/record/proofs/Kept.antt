-- The state rules hold of a fresh loop, and again after every command but a sample that is not refused.
use Prim.Native.Nat.{ℕ, ◌-◌}
use mathlib.Core.Path.{◌≡◌, refl}
use mathlib.Core.Bool.{Bool, true, false, not, cond, ◌||◌}
use native.Mathlib.Omega.{arith}
use borrow.Author.Tests.{lt-ltb}
use lib.Dec.{eqb, ltb}
use lib.IntN.{ℤ, pos, negsuc}
use lib.Signed.{lt_z}
use Rattle.whole.specs.Numbers.{plus, inside}
use Rattle.whole.proofs.Truth.{never, both, chosen, zero_then, zero_else, zero_if}
use Rattle.whole.proofs.Parts.{zs, inside_yes}
use Rattle.settings.specs.declared.Settings.{Settings}
use Rattle.settings.specs.Table.{sets, in_reach}
use Rattle.settings.specs.Settings.{in_table, ordered}
use Rattle.settings.proofs.Ranges.{settings_in}
use Rattle.window.proofs.Rules.{fresh_ok}
use Rattle.record.specs.declared.Loop.{Loop}
use Rattle.record.specs.Record.{in_rates, fresh_of}
use Rattle.record.specs.Refusals.{put_refusal, target_refusal, set_refusal}
use Rattle.record.specs.Commands.{with_mode, with_target, hold_of, put_of, automatic_of, target_of, set_of}
use Rattle.record.proofs.Rules.{Holds}

pub fresh_holds : (s : Settings) → in_table s ≡ true → ordered s ≡ true → Holds (fresh_of s)
fresh_holds s t o =
    let i = settings_in s t in
    record {
      table = t;
      order = o;
      w = i.sp;
      target = i.sp;
      rate = i.rate;
      set = refl;
      u = (both (lt_z s.lo s.hi) (inside s.lo s.hi s.out) o).1;
      integral = refl;
      y = refl;
      zero = refl;
      pending = refl;
      window = fresh_ok;
      raw = refl;
    }

-- ---- the commands

moded : (l : Loop) (a p : Bool) (k : ℕ) → Holds l → ltb k sets ≡ true → (a || not p) ≡ true → Holds (with_mode l a p k)
moded l a p k h e f = record {
  table = h.table;
  order = h.order;
  w = h.w;
  target = h.target;
  rate = h.rate;
  set = e;
  u = h.u;
  integral = h.integral;
  y = h.y;
  zero = h.zero;
  pending = f;
  window = h.window;
  raw = h.raw;
}

targeted : (l : Loop) (t r u : ℤ) → Holds l → in_reach t ≡ true → in_rates r ≡ true → inside l.settings.lo l.settings.hi u ≡ true →
    Holds (with_target l t r u)
targeted l t r u h a b c = record {
  table = h.table;
  order = h.order;
  w = h.w;
  target = a;
  rate = b;
  set = h.set;
  u = c;
  integral = h.integral;
  y = h.y;
  zero = h.zero;
  pending = h.pending;
  window = h.window;
  raw = h.raw;
}

set_pending : (a p : Bool) → (a || not p) ≡ true → (a || not (p || a)) ≡ true
set_pending true p e = refl
set_pending false true e = e
set_pending false false e = refl

set_in : (k : ℤ) → inside (pos 0) (pos (sets - 1)) k ≡ true → ltb (plus k) sets ≡ true
set_in (pos n) e = let b = inside_yes (pos 0) (pos (sets - 1)) (pos n) e in lt-ltb n sets (omega (arith, zs))
set_in (negsuc n) e = never e

module _ (l : Loop) (h : Holds l) where
  pub hold_holds : Holds (hold_of l)
  hold_holds = moded l false false l.set h h.set refl

  pub put_holds : (x : ℤ) → put_refusal l x ≡ 0 → Holds (put_of l x)
  put_holds x e = targeted l l.target l.rate x h h.target h.rate (zero_then _ 4 (zero_else l.automatic 5 _ e).1)

  pub automatic_holds : Holds (automatic_of l)
  automatic_holds = chosen Holds l.automatic (λ _. h) (λ _. moded l true true l.set h h.set refl)

  pub target_holds : (t r : ℤ) → target_refusal t r ≡ 0 → Holds (target_of l t r)
  target_holds t r e =
      let z = zero_if (in_reach t) (cond (in_rates r) 0 8) 6 e in
      targeted l t r l.u h z.0 (zero_then (in_rates r) 7 z.1) h.u

  pub set_holds : (k : ℤ) → set_refusal k ≡ 0 → Holds (set_of l (plus k))
  set_holds k e =
      chosen Holds (eqb l.set (plus k)) (λ _. h)
      (λ _. moded l l.automatic (l.pending || l.automatic) (plus k) h (set_in k (zero_then _ 8 e)) (set_pending l.automatic l.pending h.pending))
