-- Sums, products and tests of numbers with the other sign.
use Prim.Native.Nat.{zero, suc}
use mathlib.Core.Path.{◌≡◌, sym, ap, ◌∙◌}
use native.Mathlib.Omega.{arith}
use lib.IntN.{ℤ, pos, negsuc, neg_ℤ, ◌-ℤ◌, ◌*ℤ◌, neg_ℤ-neg_ℤ, neg_ℤ-+ℤ, *ℤ-negsuc, *ℤ-zero, *ℤ_comm}
use lib.Signed.{lt_z, le_z}
use Rattle.whole.specs.Numbers.{eq_z, inside}
use Rattle.whole.proofs.Truth.{never, by_test, and_comm}
use Rattle.whole.proofs.Parts.{zs, yes_eq_z, no_eq_z, eq_z_yes}
use Rattle.whole.proofs.Lin.{Lin, at, lin_neg, lins}

pub mul_neg : (a b : ℤ) → a *ℤ neg_ℤ b ≡ neg_ℤ (a *ℤ b)
mul_neg a (pos zero) = rw *ℤ-zero
mul_neg a (pos (suc n)) = *ℤ-negsuc a n
mul_neg a (negsuc n) = sym (ap neg_ℤ (*ℤ-negsuc a n) ∙ neg_ℤ-neg_ℤ (a *ℤ pos (suc n)))

pub neg_mul : (a b : ℤ) → neg_ℤ a *ℤ b ≡ neg_ℤ (a *ℤ b)
neg_mul a b = *ℤ_comm (neg_ℤ a) b ∙ mul_neg b a ∙ ap neg_ℤ (*ℤ_comm b a)

-- `simp negs` brings every sign before a product and into a sum
pub ruleset negs = (mul_neg, neg_mul, neg_ℤ-+ℤ, neg_ℤ-neg_ℤ)

pub neg_sub : (a b : ℤ) → neg_ℤ a -ℤ neg_ℤ b ≡ b -ℤ a
neg_sub a b =
    let A = at a in
    let B = at b in
    let L : Lin (neg_ℤ a -ℤ neg_ℤ b) = search lins in
    let R : Lin (b -ℤ a) = search lins in
    omega (arith, zs)

pub lt_neg : (a b : ℤ) → lt_z (neg_ℤ a) (neg_ℤ b) ≡ lt_z b a
lt_neg a b =
    let A = lin_neg (at a) in
    let B = lin_neg (at b) in
    by_test (lt_z b a) (λ e. rw e (omega (arith, zs))) (λ e. rw e (omega (arith, zs)))

pub le_neg : (a b : ℤ) → le_z (neg_ℤ a) (neg_ℤ b) ≡ le_z b a
le_neg a b =
    let A = lin_neg (at a) in
    let B = lin_neg (at b) in
    by_test (le_z b a) (λ e. rw e (omega (arith, zs))) (λ e. rw e (omega (arith, zs)))

pub eq_z_neg : (a b : ℤ) → eq_z (neg_ℤ a) (neg_ℤ b) ≡ eq_z a b
eq_z_neg a b =
    by_test (eq_z a b)
    (λ e. rw e (yes_eq_z (neg_ℤ a) (neg_ℤ b) (ap neg_ℤ (eq_z_yes a b e))))
    (λ e. rw e (no_eq_z (neg_ℤ a) (neg_ℤ b) (λ q. never (sym e ∙ yes_eq_z a b (sym (neg_ℤ-neg_ℤ a) ∙ ap neg_ℤ q ∙ neg_ℤ-neg_ℤ b)))))

pub inside_neg : (least most x : ℤ) → inside (neg_ℤ most) (neg_ℤ least) (neg_ℤ x) ≡ inside least most x
inside_neg least most x = rw (le_neg most x, le_neg x least, and_comm (le_z x most) (le_z least x))
