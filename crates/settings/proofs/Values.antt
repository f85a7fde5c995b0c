-- Settings and the list of their values, there and back, with any number of gain sets.
use Prim.Native.Nat.{ℕ, zero, suc, ◌+◌, ◌-◌, ◌*◌, ◌<◌, ◌≤◌}
use mathlib.Core.Path.{◌≡◌, refl, sym, ap, ap₂, ◌∙◌}
use mathlib.Core.List.{List, [], ◌∷◌, ◌++◌, append_assoc, append-nil}
use native.Mathlib.Nat.{add-zero}
use native.Mathlib.Numerals.{unary_clauses}
use native.Mathlib.Omega.{arith}
use lib.IntN.{ℤ, pos}
use lib.ListN.{length, get_or, take, drop, replicate, drop_of_length-le, length-append, length-take, length-replicate, get_or-replicate, get_or-append}
use lib.Seq.{drop-cons, get_or-append-add, get_or-take, take_all, take_at, length-take-le}
use Rattle.settings.specs.declared.Gains.{Gains}
use Rattle.settings.specs.declared.Settings.{Settings}
use Rattle.settings.specs.Table.{sets, heads, keys, lines_for, each}
use Rattle.settings.specs.Settings.{gain_values, head_values, no_gains, gains_at, gains_from, sets_from, values_of, settings_of, filled}
use Rattle.settings.proofs.Lists.{each_append}

-- ---- values, and settings put together from them

-- n elements of a list, from place i on
abbrev listed : {A : Type 0} → A → ℕ → ℕ → List A → List A
listed d zero i xs = []
listed d (suc n) i xs = get_or xs i d ∷ listed d n (suc i) xs

listed_all : {A : Type 0} (d : A) (n i : ℕ) (xs : List A) → i + n ≤ length xs → listed d n i xs ++ drop (i + n) xs ≡ drop i xs
listed_all d zero i xs e = rw (add-zero i)
listed_all d (suc n) i xs e =
    let m : i + suc n ≡ suc i + n = omega arith in
    rw m (ap (λ (ys : List _). get_or xs i d ∷ ys) (listed_all d n (suc i) xs (omega arith)) ∙ sym (drop-cons xs i d (omega arith)))

-- the values of n gain sets that stand from place i on
sets_values : (n i : ℕ) (vs : List ℤ) → length vs ≡ i + keys * n → each gain_values (sets_from i n vs) ≡ drop i vs
sets_values zero i vs e = sym (drop_of_length-le vs {i = i} (omega arith))
sets_values (suc n) i vs e =
    let g : gain_values (gains_from i vs) ≡ listed (pos 0) keys i vs = simp unary_clauses in
    ap₂ (λ (xs ys : List ℤ). xs ++ ys) g (sets_values n (i + keys) vs (omega arith)) ∙ listed_all (pos 0) keys i vs (omega arith)

pub values_front : (n : ℕ) (vs : List ℤ) → length vs ≡ lines_for heads n → head_values (settings_of vs) ++ each gain_values (sets_from heads n vs) ≡ vs
values_front n vs e =
    ap (λ (xs : List ℤ). head_values (settings_of vs) ++ xs) (sets_values n heads vs e) ∙ listed_all (pos 0) heads 0 vs (omega arith)

-- ---- and back

-- gain sets whose values stand after others
sets_back : (hs : List ℤ) (gs : List Gains) → sets_from (length hs) (length gs) (hs ++ each gain_values gs) ≡ gs
sets_back hs [] = refl
sets_back hs (g ∷ gs) =
    let ws = gain_values g ++ each gain_values gs in
    let at : (j : ℕ) → get_or (hs ++ ws) (length hs + j) (pos 0) ≡ get_or ws j (pos 0) = λ j. get_or-append-add hs ws j (pos 0) in
    let z = rw add-zero at (at 0) in
    let n : length hs + keys ≡ length (hs ++ gain_values g) = simp length-append in
    ap₂ (λ (x : Gains) (ys : List Gains). x ∷ ys) (rw (z, at 1, at 2, at 3, at 4))
    (ap₂ (λ (k : ℕ) (vs : List ℤ). sets_from k (length gs) vs) n (sym (append_assoc hs (gain_values g) (each gain_values gs)))
    ∙ sets_back (hs ++ gain_values g) gs)

pub settings_values : (s : Settings) → length s.gains ≡ sets → settings_of (values_of s) ≡ s
settings_values s e =
    ap (λ (g : List Gains). record { action = s.action; lo = s.lo; hi = s.hi; out = s.out; sp = s.sp; rate = s.rate; mean = s.mean; jump = s.jump; gains = g })
    (ap (λ (n : ℕ). sets_from heads n (values_of s)) (sym e) ∙ sets_back (head_values s) s.gains)

-- ---- settings filled with set 0

-- settings whose gain sets alone are others
pub filled_is : (n : ℕ) (s : Settings) {gs : List Gains} → gs ≡ (filled n s).gains →
    ◌≡◌ {A = Settings} (record { action = s.action; lo = s.lo; hi = s.hi; out = s.out; sp = s.sp; rate = s.rate; mean = s.mean; jump = s.jump; gains = gs }) (filled n s)
filled_is n s e = rw e

-- no set is left to fill
pub filled_all : (s : Settings) → length s.gains ≡ sets → filled sets s ≡ s
filled_all s e = sym (filled_is sets s (sym (append-nil (take sets s.gains) ∙ take_all sets s.gains (omega arith))))

module _ (n : ℕ) (s : Settings) (m : n ≤ sets) (e : length s.gains ≡ sets) where
  pub filled_long : length (filled n s).gains ≡ sets
  filled_long = simp (length-append, length-take, length-replicate) (omega arith)

  -- a set that was missing is set 0
  pub filled_at : (k : ℕ) → n ≤ k → k < sets → gains_at (filled n s).gains k ≡ gains_at s.gains 0
  filled_at k h l =
      let t = length-take-le n s.gains (omega arith) in
      let p : k ≡ length (take n s.gains) + (k - n) = omega (arith, t) in
      let g = gains_at s.gains 0 in
      ap (gains_at (filled n s).gains) p
      ∙ get_or-append-add (take n s.gains) (replicate (sets - n) g) (k - n) no_gains
      ∙ get_or-replicate (sets - n) (k - n) g no_gains (omega arith)

  -- filling again changes nothing
  pub filled_twice : 1 ≤ n → filled n (filled n s) ≡ filled n s
  filled_twice l =
      let t = length-take-le n s.gains (omega arith) in
      let again = replicate (sets - n) (gains_at s.gains 0) in
      let g : gains_at (filled n s).gains 0 ≡ gains_at s.gains 0 = get_or-append (take n s.gains) again no_gains 0 (omega arith) ∙ get_or-take n s.gains 0 no_gains (omega arith) in
      rw (take_at (take n s.gains) again n t, g)

take_sets : (n m i : ℕ) (vs : List ℤ) → n ≤ m → take n (sets_from i m vs) ≡ sets_from i n vs
take_sets zero m i vs h = refl
take_sets (suc n) zero i vs h = absurd (omega arith)
take_sets (suc n) (suc m) i vs h = ap (λ (gs : List Gains). gains_from i vs ∷ gs) (take_sets n m (i + keys) vs (omega arith))

-- the values that were there stay at the front
pub values_filled : (n : ℕ) (vs : List ℤ) → n ≤ sets → length vs ≡ lines_for heads n →
    values_of (filled n (settings_of vs)) ≡ vs ++ each gain_values (replicate (sets - n) (gains_from heads vs))
values_filled n vs m e =
    let s = settings_of vs in
    let again = replicate (sets - n) (gains_from heads vs) in
    ap (λ (xs : List ℤ). head_values s ++ xs) (each_append gain_values (take n s.gains) again)
    ∙ sym (append_assoc (head_values s) (each gain_values (take n s.gains)) (each gain_values again))
    ∙ ap (λ (gs : List Gains). (head_values s ++ each gain_values gs) ++ each gain_values again) (take_sets n sets heads vs m)
    ∙ ap (λ (xs : List ℤ). xs ++ each gain_values again) (values_front n vs e)

-- only the values of the first sets count
gains_first : (i m : ℕ) (vs : List ℤ) → i + keys ≤ m → gains_from i (take m vs) ≡ gains_from i vs
gains_first i m vs h =
    let at : (j : ℕ) → j < keys → get_or (take m vs) (i + j) (pos 0) ≡ get_or vs (i + j) (pos 0) = λ j l. get_or-take m vs (i + j) (pos 0) (omega arith) in
    let z = get_or-take m vs i (pos 0) (omega arith) in
    rw (z, at 1 (omega arith), at 2 (omega arith), at 3 (omega arith), at 4 (omega arith))

sets_first : (n i m : ℕ) (vs : List ℤ) → i + keys * n ≤ m → sets_from i n (take m vs) ≡ sets_from i n vs
sets_first zero i m vs h = refl
sets_first (suc n) i m vs h =
    ap₂ (λ (g : Gains) (gs : List Gains). g ∷ gs) (gains_first i m vs (omega arith)) (sets_first n (i + keys) m vs (omega arith))

pub filled_first : (n : ℕ) (vs : List ℤ) → 1 ≤ n → n ≤ sets → filled n (settings_of (take (lines_for heads n) vs)) ≡ filled n (settings_of vs)
filled_first n vs l h =
    let ws = take (lines_for heads n) vs in
    let at : (j : ℕ) → j < heads → get_or ws j (pos 0) ≡ get_or vs j (pos 0) = λ j k. get_or-take (lines_for heads n) vs j (pos 0) (omega arith) in
    let t = take_sets n sets heads ws h ∙ sets_first n heads (lines_for heads n) vs (omega arith) ∙ sym (take_sets n sets heads vs h) in
    let g = gains_first heads (lines_for heads n) vs (omega arith) in
    rw (t, g, at 0 (omega arith), at 1 (omega arith), at 2 (omega arith), at 3 (omega arith), at 4 (omega arith), at 5 (omega arith), at 6 (omega arith), at 7 (omega arith))
