-- Samples taken one after the other, said of every temperature there was: no place is moved.
use Prim.Native.Nat.{ℕ, zero, suc, ◌+◌, ◌-◌, ◌<◌, ◌≤◌, min}
use mathlib.Core.Path.{◌≡◌, refl, sym, ap, ap₂, ◌∙◌}
use mathlib.Core.List.{List, [], ◌∷◌, ◌++◌}
use native.Mathlib.Nat.{zero-add}
use native.Mathlib.Numerals.{add-one}
use native.Mathlib.Omega.{arith}
use borrow.Author.Tests.{lt-ltb, le-ltb, eq-eqb, ne_eqb}
use lib.IntN.{ℤ, pos, ◌+ℤ◌, ◌-ℤ◌}
use lib.ListN.{length, get_or, take, drop, set, length-take, length-append, length-drop}
use lib.Seq.{sets, sets-eq, take-suc, take-take, take_all, take_at, take-length, drop_at, drop-cons}
use Rattle.whole.specs.Rounding.{nearest}
use Rattle.whole.proofs.Parts.{zs}
use Rattle.whole.proofs.Lin.{Lin, at, lins}
use Rattle.command.specs.Sequence.{after, each}
use Rattle.command.proofs.Sequences.{after_snoc}
use Rattle.settings.specs.Table.{window}
use Rattle.temperature.specs.declared.Guard.{Guard}
use Rattle.temperature.specs.Temperature.{first_code}
use Rattle.window.specs.declared.Window.{Window}
use Rattle.window.specs.Window.{taken, latest, sum_of, mean_of, mean_at}
use Rattle.window.specs.Means.{after_all, means_of, front_filled, means_into, past_of}
use Rattle.window.specs.declared.means.Summed.{Summed}
use Rattle.window.specs.Bounds.{Bits, summed_of}
use Rattle.window.specs.Running.{counted_on, means_at}
use Rattle.window.proofs.Sums.{Each, sum_next}

-- ---- the last of those seen

take_least : {A : Type 0} (m n : ℕ) (xs : List A) → take m (take n xs) ≡ take (min m n) xs
take_least zero n xs = let e : min 0 n ≡ 0 = omega arith in rw e
take_least (suc m) zero xs = let e : min (suc m) 0 ≡ 0 = omega arith in rw e
take_least (suc m) (suc n) [] = let e : min (suc m) (suc n) ≡ suc (min m n) = omega arith in rw e
take_least (suc m) (suc n) (x ∷ xs) =
    let e : min (suc m) (suc n) ≡ suc (min m n) = omega arith in
    rw e (ap (λ (ys : List _). x ∷ ys) (take_least m n xs))

-- over how many a mean over the last m goes
abbrev pub counted : ℕ → Window → ℕ
counted m w = min m (min w.seen window)

-- of all temperatures, of which the window has the newest
module _ (m : ℕ) (w : Window) (all : List ℤ) (newest : take window all ≡ w.places) (long : window ≤ length all) where
  latest_is : latest m w ≡ take (counted m w) all
  latest_is =
      ap (λ (xs : List ℤ). take m (take w.seen xs)) (sym newest)
      ∙ ap (take m) (take_least w.seen window all)
      ∙ take_least m (min w.seen window) all

  pub mean_is : mean_of (latest m w) ≡ nearest (sum_of (take (counted m w) all)) (counted m w)
  mean_is =
      let n : length (take (counted m w) all) ≡ counted m w = length-take (counted m w) all ∙ omega arith in
      ap mean_of latest_is ∙ ap (nearest (sum_of (take (counted m w) all))) n

-- ---- the mean after each

newest_taken : (w : Window) (pv : ℤ) (all : List ℤ) → take window all ≡ w.places → take window (pv ∷ all) ≡ (taken w pv).places
unfolding taken
newest_taken w pv all e =
    ap (λ (xs : List ℤ). pv ∷ xs) (sym (take-take (window - 1) window all (omega arith)) ∙ ap (take (window - 1)) e)

counted_taken : (m : ℕ) (w : Window) (x : ℤ) → counted m (taken w x) ≡ min (min m window) (counted m w + 1)
unfolding taken
counted_taken m w x = ap (min m) (capped w.seen) ∙ shared m (min w.seen window)
  where
    capped : (n : ℕ) → min (min window (n + 1)) window ≡ min window (min n window + 1)
    capped n = omega arith

    shared : (m n : ℕ) → min m (min window (n + 1)) ≡ min (min m window) (min m n + 1)
    shared m n = omega arith

pub means_at_lem : (m : ℕ) (w : Window) (all xs : List ℤ) → take window all ≡ w.places → window ≤ length all →
    means_of m w xs ≡ means_at (min m window) (counted m w) all xs
unfolding each mean_at
means_at_lem m w all [] e l = refl
means_at_lem m w all (x ∷ xs) e l =
    let v = taken w x in
    let f = newest_taken w x all e in
    let n = counted_taken m w x in
    ap₂ (λ (z : ℤ) (zs : List ℤ). z ∷ zs)
    (mean_is m v (x ∷ all) f (omega arith) ∙ ap (λ (k : ℕ). nearest (sum_of (take k (x ∷ all))) k) n)
    (means_at_lem m v (x ∷ all) xs f (omega arith) ∙ ap (λ (k : ℕ). means_at (min m window) k (x ∷ all) xs) n)

-- ---- the running sum

-- a number comes, and the last leaves
pub sum_turn : (n : ℕ) (x : ℤ) (all : List ℤ) → sum_of (take n all) +ℤ x -ℤ get_or (x ∷ all) n (pos 0) ≡ sum_of (take n (x ∷ all))
sum_turn n x all = gone (sum_of (take n all)) x (sum_of (take n (x ∷ all))) (get_or (x ∷ all) n (pos 0)) (sum_next n (x ∷ all))
  where
    gone : (s x t g : ℤ) → x +ℤ s ≡ t +ℤ g → s +ℤ x -ℤ g ≡ t
    gone s x t g e =
        let S = at s in
        let X = at x in
        let T = at t in
        let G = at g in
        let A : Lin (x +ℤ s) = search lins in
        let B : Lin (t +ℤ g) = search lins in
        let C : Lin (s +ℤ x -ℤ g) = search lins in
        omega (arith, zs)

-- a number comes, and none leaves
pub sum_more : (n : ℕ) (x : ℤ) (all : List ℤ) → sum_of (take n all) +ℤ x ≡ sum_of (take (suc n) (x ∷ all))
sum_more n x all = swap (sum_of (take n all)) x
  where
    swap : (s x : ℤ) → s +ℤ x ≡ x +ℤ s
    swap s x =
        let S = at s in
        let X = at x in
        let A : Lin (x +ℤ s) = search lins in
        let B : Lin (s +ℤ x) = search lins in
        omega (arith, zs)

-- ---- every temperature after n of the samples

-- the samples stand first, and then those before them
pub past_new : (old s : List ℤ) (n j : ℕ) → j < n → get_or (past_of old s n) j (pos 0) ≡ get_or s (n - 1 - j) (pos 0)
unfolding past_of
past_new old s zero j h = absurd (omega arith)
past_new old s (suc n) zero h = ap (λ (k : ℕ). get_or s k (pos 0)) (omega arith)
past_new old s (suc n) (suc j) h = past_new old s n j (omega arith) ∙ ap (λ (k : ℕ). get_or s k (pos 0)) (omega arith)

pub past_old : (old s : List ℤ) (n j : ℕ) → n ≤ j → get_or (past_of old s n) j (pos 0) ≡ get_or old (j - n) (pos 0)
unfolding past_of
past_old old s zero j h = ap (λ (k : ℕ). get_or old k (pos 0)) (omega arith)
past_old old s (suc n) zero h = absurd (omega arith)
past_old old s (suc n) (suc j) h = past_old old s n j (omega arith) ∙ ap (λ (k : ℕ). get_or old k (pos 0)) (omega arith)

pub past_long : (old s : List ℤ) (n : ℕ) → length (past_of old s n) ≡ length old + n
unfolding past_of
past_long old s zero = omega arith
past_long old s (suc n) = omega (arith, past_long old s n)

pub past_each : (lo hi : ℤ) (old s : List ℤ) (n : ℕ) → Each lo hi old → Each lo hi s → Each lo hi (past_of old s n)
unfolding past_of
past_each lo hi old s zero e f i = e i
past_each lo hi old s (suc n) e f zero = f n
past_each lo hi old s (suc n) e f (suc i) = past_each lo hi old s n e f i

pub past_bits : (old s : List ℤ) (n : ℕ) → Bits old → Bits s → Bits (past_of old s n)
unfolding past_of
past_bits old s zero e f i = e i
past_bits old s (suc n) e f zero = f n
past_bits old s (suc n) e f (suc i) = past_bits old s n e f i

-- ---- a sample more in the running sum

module _ (n most i : ℕ) (sum : ℤ) (old s : List ℤ) (e : sum ≡ sum_of (take n (past_of old s i))) where
  -- where fewer than most were counted
  pub summed_more : n < most →
      ◌≡◌ {A = Summed} (record { n = n + 1; sum = sum +ℤ get_or s i (pos 0) }) (summed_of (min most (n + 1)) (past_of old s (i + 1)))
  unfolding past_of
  summed_more h =
      let k : min most (n + 1) ≡ n + 1 = omega arith in
      rw (k, e, add-one i) (ap (λ (z : ℤ). record { n = n + 1; sum = z }) (rw (add-one n) (sum_more n (get_or s i (pos 0)) (past_of old s i))))

  -- where most of them were, and g is the oldest
  pub summed_turn : (g : ℤ) → n ≡ most → g ≡ get_or (past_of old s (i + 1)) most (pos 0) →
      ◌≡◌ {A = Summed} (record { n = n; sum = sum +ℤ get_or s i (pos 0) -ℤ g }) (summed_of (min most (n + 1)) (past_of old s (i + 1)))
  unfolding past_of
  summed_turn g h f =
      let k : min most (n + 1) ≡ n = omega arith in
      let f' : g ≡ get_or (get_or s i (pos 0) ∷ past_of old s i) n (pos 0) = f ∙ ap₂ (λ (k j : ℕ). get_or (past_of old s k) j (pos 0)) (add-one i) (sym h) in
      rw (k, e, f', add-one i) (ap (λ (z : ℤ). record { n = n; sum = z }) (sum_turn n (get_or s i (pos 0)) (past_of old s i)))

-- ---- the list that takes the means

pub sets_front : (out vs : List ℤ) → length vs ≤ length out → sets out 0 vs ≡ front_filled vs out
sets_front out vs h = sets-eq vs out 0 (rw zero-add h) ∙ rw zero-add

pub means_length : (m : ℕ) (w : Window) (s : List ℤ) → length (means_of m w s) ≡ length s
unfolding each
means_length m w [] = refl
means_length m w (x ∷ s) = ap suc (means_length m (taken w x) s)

-- its front, filled once, and filled again
pub front_take : (vs out : List ℤ) → take (length vs) (front_filled vs out) ≡ vs
front_take vs out = take_at vs (drop (length vs) out) (length vs) refl

pub front_long : (vs out : List ℤ) → length vs ≤ length out → length (front_filled vs out) ≡ length out
front_long vs out h = simp (length-append, length-drop) (omega arith)

pub front_twice : (us vs out : List ℤ) → length us ≡ length vs → front_filled us (front_filled vs out) ≡ front_filled us out
front_twice us vs out e =
    ap (λ (xs : List ℤ). us ++ xs) (drop_at vs (drop (length vs) out) (length us) (sym e) ∙ ap (λ (k : ℕ). drop k out) (sym e))

-- one mean more
pub means_turn : (most n i : ℕ) (old s out : List ℤ) (z : ℤ) → i < length s →
    z ≡ nearest (sum_of (take (min most (n + 1)) (past_of old s (i + 1)))) (min most (n + 1)) →
    sets (set out i z) (i + 1) (means_at most (min most (n + 1)) (past_of old s (i + 1)) (drop (i + 1) s)) ≡ sets out i (means_at most n (past_of old s i) (drop i s))
unfolding past_of
means_turn most n i old s out z more e = rw (e, add-one i, drop-cons s i (pos 0) more)

pub means_long : (most n : ℕ) (all s : List ℤ) → length (means_at most n all s) ≡ length s
means_long most n all [] = refl
means_long most n all (x ∷ s) = ap suc (means_long most (min most (n + 1)) (x ∷ all) s)

-- and one counted more
pub counted_turn : (most n i : ℕ) (s : List ℤ) → i < length s → counted_on most (min most (n + 1)) (drop (i + 1) s) ≡ counted_on most n (drop i s)
counted_turn most n i s more = rw (add-one i, drop-cons s i (pos 0) more)

-- what becomes of the list
module _ (m : ℕ) (w : Window) (g : Guard) (s out : List ℤ) where
  pub into_bad : (first_code g s ≡ 0 → ⊥) → out ≡ means_into m w g s out
  unfolding means_into
  into_bad h = rw (ne_eqb (first_code g s) 0 h)

  module _ (good : first_code g s ≡ 0) where
    pub into_short : length out < length s → out ≡ means_into m w g s out
    unfolding means_into
    into_short h = rw (eq-eqb (first_code g s) 0 good, lt-ltb (length out) (length s) h)

    pub into_front : length s ≤ length out → front_filled (means_of m w s) out ≡ means_into m w g s out
    unfolding means_into
    into_front h = rw (eq-eqb (first_code g s) 0 good, le-ltb (length out) (length s) h)

-- ---- the window after all of them

-- after n of them
module _ (w : Window) (s : List ℤ) (full : length w.places ≡ window) where
  one_more : (n : ℕ) → n < length s → after_all w (take (suc n) s) ≡ taken (after_all w (take n s)) (get_or s n (pos 0))
  one_more n h = ap (after_all w) (take-suc s n (pos 0) h) ∙ after_snoc taken w (take n s) (get_or s n (pos 0))

  places_after : (n : ℕ) → n ≤ length s → take window (past_of w.places s n) ≡ (after_all w (take n s)).places
  unfolding past_of after
  places_after zero h = take_all window w.places (omega arith)
  places_after (suc n) h =
      newest_taken (after_all w (take n s)) (get_or s n (pos 0)) (past_of w.places s n) (places_after n (omega arith))
      ∙ ap (λ (v : Window). v.places) (sym (one_more n (omega arith)))

  seen_after : (n : ℕ) → n < length s → (after_all w (take (suc n) s)).seen ≡ min window (w.seen + suc n)
  unfolding after taken
  seen_after zero h = ap (λ (v : Window). v.seen) (one_more zero h)
  seen_after (suc n) h =
      ap (λ (v : Window). v.seen) (one_more (suc n) h)
      ∙ ap (λ (k : ℕ). min window (k + 1)) (seen_after n (omega arith))
      ∙ omega arith

  pub after_is : 1 ≤ length s →
      after_all w s ≡ record { places = take window (past_of w.places s (length s)); seen = min window (w.seen + length s) }
  after_is l =
      let n : suc (length s - 1) ≡ length s = omega arith in
      let a = take-length s in
      ap (λ (xs : List ℤ). after_all w xs) (sym a)
      ∙ ap₂ (λ (ps : List ℤ) (k : ℕ). record { places = ps; seen = k }) (sym (places_after (length s) (omega arith)))
      (ap (λ (k : ℕ). (after_all w (take k s)).seen) (sym n) ∙ seen_after (length s - 1) (omega arith) ∙ ap (λ (k : ℕ). min window (w.seen + k)) n)
