-- Laws of the running sum: samples in two parts, and what the means of the second part depend on.
use Prim.Native.Nat.{ℕ, zero, suc, ◌+◌, ◌-◌, ◌≤◌, min}
use mathlib.Core.Path.{◌≡◌, refl, sym, ap, ap₂, ◌∙◌}
use mathlib.Core.List.{List, [], ◌∷◌, ◌++◌}
use native.Mathlib.Numerals.{add-one}
use native.Mathlib.Omega.{arith}
use lib.IntN.{ℤ, pos, ◌+ℤ◌, ◌-ℤ◌, ◌*ℤ◌}
use lib.ListN.{length, get_or, take, drop, take-append-drop}
use lib.Seq.{sets, take-suc, take-take, length-take-le}
use Rattle.whole.specs.Rounding.{nearest}
use Rattle.whole.proofs.Parts.{zs}
use Rattle.whole.proofs.Lin.{Lin, at, lins}
use Rattle.whole.proofs.Nearest.{nearest_exact}
use Rattle.word.proofs.Stores.{sets_append}
use Rattle.command.specs.Sequence.{each}
use Rattle.settings.specs.Table.{window}
use Rattle.window.specs.declared.Window.{Window}
use Rattle.window.specs.Window.{taken, sum_of, mean_of, mean_at}
use Rattle.window.specs.Means.{means_of, past_of}
use Rattle.window.specs.Running.{onto, counted_on, means_at}
use Rattle.window.proofs.Taken.{means_long, past_new, sum_turn}

-- ---- every temperature there was

onto_snoc : (all xs : List ℤ) (x : ℤ) → onto all (xs ++ (x ∷ [])) ≡ x ∷ onto all xs
onto_snoc all [] x = refl
onto_snoc all (y ∷ xs) x = onto_snoc (y ∷ all) xs x

pub past_onto : (old s : List ℤ) (i : ℕ) → i ≤ length s → past_of old s i ≡ onto old (take i s)
unfolding past_of
past_onto old s zero h = refl
past_onto old s (suc i) h =
    ap (λ (xs : List ℤ). get_or s i (pos 0) ∷ xs) (past_onto old s i (omega arith))
    ∙ sym (ap (onto old) (take-suc s i (pos 0) (omega arith)) ∙ onto_snoc old (take i s) (get_or s i (pos 0)))

-- the last n of them are the samples, whatever was before
past_front : (a b s : List ℤ) (n : ℕ) → take n (past_of a s n) ≡ take n (past_of b s n)
unfolding past_of
past_front a b s zero = refl
past_front a b s (suc n) = ap (λ (xs : List ℤ). get_or s n (pos 0) ∷ xs) (past_front a b s n)

-- ---- how many are counted

pub counted_on_lem : (most n : ℕ) (xs : List ℤ) → n ≤ most → counted_on most n xs ≡ min most (n + length xs)
counted_on_lem most n [] h = omega arith
counted_on_lem most n (x ∷ xs) h = counted_on_lem most (min most (n + 1)) xs (omega arith) ∙ omega arith

-- ---- the means

means_append : (most n : ℕ) (all xs ys : List ℤ) → means_at most n all (xs ++ ys) ≡ means_at most n all xs ++ means_at most (counted_on most n xs) (onto all xs) ys
means_append most n all [] ys = refl
means_append most n all (x ∷ xs) ys =
    ap (λ (zs : List ℤ). nearest (sum_of (take (min most (n + 1)) (x ∷ all))) (min most (n + 1)) ∷ zs) (means_append most (min most (n + 1)) (x ∷ all) xs ys)

-- of all there was only the last `most` count
front_more : (n : ℕ) (x : ℤ) (a b : List ℤ) → take n a ≡ take n b → take n (x ∷ a) ≡ take n (x ∷ b)
front_more zero x a b e = refl
front_more (suc n) x a b e = ap (λ (zs : List ℤ). x ∷ zs) (fewer n a b e)
  where
    fewer : (n : ℕ) (a b : List ℤ) → take (suc n) a ≡ take (suc n) b → take n a ≡ take n b
    fewer n a b e =
        sym (take-take n (suc n) a (omega arith)) ∙ ap (take n) e ∙ take-take n (suc n) b (omega arith)

means_front : (most : ℕ) (a b xs : List ℤ) → take most a ≡ take most b → means_at most most a xs ≡ means_at most most b xs
means_front most a b [] e = refl
means_front most a b (x ∷ xs) e =
    let m : min most (most + 1) ≡ most = omega arith in
    let f = front_more most x a b e in
    rw m (ap₂ (λ (z : ℤ) (zs : List ℤ). z ∷ zs) (ap (λ (ys : List ℤ). nearest (sum_of ys) most) f) (means_front most (x ∷ a) (x ∷ b) xs f))

-- where what leaves the sum is a sample
pub slides : (most i : ℕ) (s : List ℤ) → most ≤ i →
    sum_of (take most (past_of [] s i)) +ℤ get_or s i (pos 0) -ℤ get_or s (i - most) (pos 0) ≡ sum_of (take most (past_of [] s (i + 1)))
unfolding past_of
slides most i s h =
    let k : i + 1 - 1 - most ≡ i - most = omega arith in
    let g : get_or (past_of [] s (i + 1)) most (pos 0) ≡ get_or s (i - most) (pos 0) = past_new [] s (i + 1) most (omega arith) ∙ ap (λ (j : ℕ). get_or s j (pos 0)) k in
    rw (← g, add-one i) (sum_turn most (get_or s i (pos 0)) (past_of [] s i))

-- ---- the first `most` samples, and then the others

module _ (most n : ℕ) (old s : List ℤ) (h : n ≤ most) (l : most ≤ length s) where
  first_long : length (take most s) ≡ most
  first_long = length-take-le most s l

  first_counted : counted_on most n (take most s) ≡ most
  first_counted = counted_on_lem most n (take most s) h ∙ omega (arith, first_long)

  first_past : take most (onto old (take most s)) ≡ take most (past_of [] s most)
  first_past = ap (take most) (sym (past_onto old s most l)) ∙ past_front old [] s most

  -- the sum after the first
  pub first_sum : sum_of (take (counted_on most n (take most s)) (onto old (take most s))) ≡ sum_of (take most (past_of [] s most))
  first_sum = ap (λ (k : ℕ). sum_of (take k (onto old (take most s)))) first_counted ∙ ap sum_of first_past

  -- the list after both
  pub both_parts : (out : List ℤ) →
      sets (sets out 0 (means_at most n old (take most s))) most (means_at most most (past_of [] s most) (drop most s)) ≡ sets out 0 (means_at most n old s)
  both_parts out =
      let vs = means_at most n old (take most s) in
      let ws = means_at most most (past_of [] s most) (drop most s) in
      let k : most ≡ 0 + length vs = omega (arith, means_long most n old (take most s), first_long) in
      ap (λ (j : ℕ). sets (sets out 0 vs) j ws) k
      ∙ sym (sets_append out 0 vs ws)
      ∙ ap (sets out 0)
      (ap (λ (zs : List ℤ). vs ++ zs)
      (means_front most (past_of [] s most) (onto old (take most s)) (drop most s) (sym first_past)
      ∙ ap (λ (j : ℕ). means_at most j (onto old (take most s)) (drop most s)) (sym first_counted))
      ∙ sym (means_append most n old (take most s) (drop most s))
      ∙ ap (means_at most n old) (take-append-drop most s))

-- ---- the mean over the last one

pub mean_one : (w : Window) (pv : ℤ) → mean_at 1 w pv ≡ pv
unfolding mean_at taken
mean_one w pv =
    let e : min window (w.seen + 1) ≡ suc (min (window - 1) w.seen) = omega arith in
    ap (λ (k : ℕ). mean_of (take 1 (take k (taken w pv).places))) e ∙ alone pv
  where
    alone : (z : ℤ) → nearest (z +ℤ pos 0) 1 ≡ z
    alone z =
        let Z = at z in
        let S : Lin (z +ℤ pos 0) = search lins in
        let P : Lin (z *ℤ pos 1) = search lins in
        let q : z +ℤ pos 0 ≡ z *ℤ pos 1 = omega (arith, zs) in
        ap (λ (x : ℤ). nearest x 1) q ∙ nearest_exact z 1 (omega arith)

pub means_one : (w : Window) (pvs : List ℤ) → means_of 1 w pvs ≡ pvs
unfolding each
means_one w [] = refl
means_one w (pv ∷ pvs) = ap₂ (λ (z : ℤ) (zs : List ℤ). z ∷ zs) (mean_one w pv) (means_one (taken w pv) pvs)
