-- Mirrored settings, and the tests of ranges.
use Prim.Native.Nat.{ℕ}
use mathlib.Core.Path.{◌≡◌, refl, sym, ap, ◌∙◌}
use mathlib.Core.Bool.{Bool, ◌&&◌}
use native.Mathlib.Omega.{arith}
use lib.IntN.{ℤ, pos, neg_ℤ, ◌-ℤ◌, neg_ℤ-neg_ℤ}
use lib.Signed.{le_z}
use Rattle.whole.specs.Numbers.{eq_z, inside}
use Rattle.whole.proofs.Truth.{by_test, and_comm, and_swap}
use Rattle.whole.proofs.Parts.{zs}
use Rattle.whole.proofs.Lin.{Lin, at, lins}
use Rattle.whole.proofs.Negated.{lt_neg, eq_z_neg, inside_neg}
use Rattle.settings.specs.declared.Settings.{Settings}
use Rattle.settings.specs.Table.{reach, rows_of, in_reach}
use Rattle.settings.specs.Settings.{in_table, ordered, settings_refusal}
use Rattle.mirror.specs.Mirror.{Mirror, of_action, of_temperatures, flip_temperature, flip_action, flip_settings}

-- ---- ranges

-- one that is its own mirror image
pub range_neg : (n : ℕ) (x : ℤ) → inside (neg_ℤ (pos n)) (pos n) (neg_ℤ x) ≡ inside (neg_ℤ (pos n)) (pos n) x
range_neg n x = ap (λ (z : ℤ). inside (neg_ℤ (pos n)) z (neg_ℤ x)) (sym (neg_ℤ-neg_ℤ (pos n))) ∙ inside_neg (neg_ℤ (pos n)) (pos n) x

pub range_temperature : (k : Mirror) (n : ℕ) (x : ℤ) → inside (neg_ℤ (pos n)) (pos n) (flip_temperature k x) ≡ inside (neg_ℤ (pos n)) (pos n) x
range_temperature of_action n x = refl
range_temperature of_temperatures n x = range_neg n x

pub zero_temperature : (k : Mirror) (x : ℤ) → eq_z (flip_temperature k x) (pos 0) ≡ eq_z x (pos 0)
zero_temperature of_action x = refl
zero_temperature of_temperatures x = eq_z_neg x (pos 0)

le_from : (c a b : ℤ) → le_z (c -ℤ a) (c -ℤ b) ≡ le_z b a
le_from c a b =
    let C = at c in
    let A = at a in
    let B = at b in
    let L : Lin (c -ℤ a) = search lins in
    let R : Lin (c -ℤ b) = search lins in
    by_test (le_z b a) (λ e. rw e (omega (arith, zs))) (λ e. rw e (omega (arith, zs)))

range_action : (k : Mirror) (a : ℤ) → inside (pos 0) (pos 1) (flip_action k a) ≡ inside (pos 0) (pos 1) a
range_action of_action a = rw (le_from (pos 1) (pos 1) a, le_from (pos 1) a (pos 0), and_comm (le_z a (pos 1)) (le_z (pos 0) a))
range_action of_temperatures a = refl

-- ---- the table

-- the rows action, lo, hi, out and sp: lo and hi change places. The rows after them stay, whatever they are
heads : (k : Mirror) (s : Settings) (rest : Bool) →
    (inside (pos 0) (pos 1) (flip_action k s.action) && (in_reach (neg_ℤ s.hi) && (in_reach (neg_ℤ s.lo) && (in_reach (neg_ℤ s.out) && (in_reach (flip_temperature k s.sp) && rest)))))
    ≡ (inside (pos 0) (pos 1) s.action && (in_reach s.lo && (in_reach s.hi && (in_reach s.out && (in_reach s.sp && rest)))))
heads k s rest =
    rw (range_action k s.action, range_neg reach s.hi, range_neg reach s.lo, range_neg reach s.out, range_temperature k reach s.sp)
    (ap (λ (b : Bool). inside (pos 0) (pos 1) s.action && b) (and_swap (in_reach s.hi) (in_reach s.lo) _))

pub table_mirror : (k : Mirror) (s : Settings) → in_table (flip_settings k s) ≡ in_table s
unfolding in_table rows_of
table_mirror k s = heads k s _

pub ordered_mirror : (k : Mirror) (s : Settings) → ordered (flip_settings k s) ≡ ordered s
ordered_mirror k s = rw (lt_neg s.hi s.lo, inside_neg s.lo s.hi s.out)

-- mirrored settings are refused alike
pub settings_mirror : (k : Mirror) (s : Settings) → settings_refusal (flip_settings k s) ≡ settings_refusal s
settings_mirror k s = rw (table_mirror k s, ordered_mirror k s)
