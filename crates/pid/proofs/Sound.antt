-- What the state rules say of the numbers that a sample reads.
use Prim.Native.Nat.{ℕ, suc}
use mathlib.Core.Path.{◌≡◌}
use mathlib.Core.Bool.{true}
use native.Mathlib.Omega.{arith}
use borrow.Author.Tests.{ltb-true}
use lib.IntN.{ℤ, pos, negsuc, ◌*ℤ◌}
use lib.Signed.{lt_z}
use Rattle.whole.specs.Numbers.{plus, Within, eq_z, inside}
use Rattle.whole.proofs.Truth.{both, chosen}
use Rattle.whole.proofs.Parts.{zs, inside_yes, yes_inside}
use Rattle.whole.proofs.Lin.{Lin, lins}
use Rattle.whole.proofs.Num.{nums, stays}
use Rattle.settings.specs.Table.{sets, in_reach}
use Rattle.settings.specs.Settings.{gains_at}
use Rattle.settings.proofs.Ranges.{GainsIn}
use Rattle.window.proofs.Rules.{mean_in}
use Rattle.record.specs.declared.Loop.{Loop}
use Rattle.record.proofs.Rules.{Holds, within_table}
use Rattle.pid.specs.Law.{fixed_of, moving_of, read_at}
use Rattle.pid.specs.Bounds.{FixedOk, MovingOk}

-- ---- ranges and bounds

pub in_range : (n : ℕ) (z : ℤ) → inside (negsuc n) (pos (suc n)) z ≡ true → Within (suc n) z
in_range n z e = let b = inside_yes (negsuc n) (pos (suc n)) z e in omega (arith, zs)

pub range_in : (n : ℕ) (z : ℤ) → Within (suc n) z → inside (negsuc n) (pos (suc n)) z ≡ true
range_in n z h = yes_inside (negsuc n) (pos (suc n)) z (record { low = omega (arith, zs); high = omega (arith, zs) })

up_in : (k n : ℕ) (z : ℤ) → inside (pos k) (pos n) z ≡ true → Within n z
up_in k n z e = let b = inside_yes (pos k) (pos n) z e in omega (arith, zs)

-- ---- what a sample reads

module _ (l : Loop) (h : Holds l) where
  gains_in : GainsIn (gains_at l.settings.gains l.set)
  gains_in = (within_table l h).gains l.set (ltb-true l.set sets h.set)

  -- the mean that the law reads
  pub read_in : (pv : ℤ) → in_reach pv ≡ true → Within 1000000 (read_at l pv)
  read_in pv e = in_range 999999 (read_at l pv) (mean_in (plus l.settings.mean) l.window pv h.window e)

  pub fixed_ok : FixedOk (fixed_of l)
  fixed_ok =
      let s = within_table l h in
      let g = gains_in in
      let lo = in_range 999999 l.settings.lo s.lo in
      let hi = in_range 999999 l.settings.hi s.hi in
      let L : Lin (l.settings.lo *ℤ pos 65536) = search lins in
      let H : Lin (l.settings.hi *ℤ pos 65536) = search lins in
      let o = (both (lt_z l.settings.lo l.settings.hi) (inside l.settings.lo l.settings.hi l.settings.out) h.order).0 in
      let r = inside_yes (pos 1) (pos 2000000) l.rate h.rate in
      let a = inside_yes (pos 1) (pos 65536) (gains_at l.settings.gains l.set).alpha g.alpha in
      record {
        sign = chosen (Within 1) (eq_z l.settings.action (pos 0)) (λ _. record { within = omega arith }) (λ _. record { within = omega arith });
        lo = stays (search nums depth 9) tt;
        hi = stays (search nums depth 9) tt;
        apart = omega (arith, zs);
        target = in_range 999999 l.target h.target;
        rate = up_in 1 2000000 l.rate h.rate;
        moves = r.low;
        kp = up_in 0 4194304 _ g.kp;
        ki = up_in 0 4194304 _ g.ki;
        kd = up_in 0 4194304 _ g.kd;
        alpha = up_in 1 65536 _ g.alpha;
        follows = a.low;
        kt = up_in 0 65536 _ g.kt;
      }

  pub moving_ok : MovingOk (moving_of l)
  moving_ok =
      let s = within_table l h in
      let lo = in_range 999999 l.settings.lo s.lo in
      let hi = in_range 999999 l.settings.hi s.hi in
      let u = inside_yes l.settings.lo l.settings.hi l.u h.u in
      record {
        w = in_range 999999 l.w h.w;
        u = omega (arith, zs);
        integral = in_range 16842751999999 l.integral h.integral;
        y = in_range 65535999999 l.y h.y;
      }
