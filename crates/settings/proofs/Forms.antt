-- Texts that leave out lines before the gain sets: the values of the rows that have a line, and of all rows.
use Prim.Native.Nat.{ℕ, suc, ◌+◌, ◌-◌, ◌≤◌}
use mathlib.Core.Path.{◌≡◌, refl, sym, ap, ap₂, ◌∙◌}
use mathlib.Core.Bool.{true, false}
use mathlib.Core.List.{List, [], ◌∷◌, ◌++◌, append_assoc}
use native.Mathlib.Nat.{zero-add}
use native.Mathlib.Omega.{arith}
use borrow.Author.Tests.{ltb-true, ltb-false, eqb-true, eqb-false}
use lib.Dec.{ltb, eqb}
use lib.IntN.{ℤ}
use lib.ListN.{length, get_or, take, drop, set, length-set, length-append, length-drop, length-take, take-append-drop, get_or-append}
use lib.Seq.{length-take-le, take-append-le, drop-append-le, drop-append-add, get_or-append-add, get_or-take, get_or-drop, set-append_left, take_at, drop_at, take-set-le, take-set-lt, drop-set-lt, drop-set-add}
use Rattle.whole.proofs.Truth.{both, and, by_test}
use Rattle.settings.specs.declared.table.Row.{Row}
use Rattle.settings.specs.Table.{first_rows, later_rows, head_rows, sets, firsts, heads, lines_for, lines, set_rows, each, numbers_from, rows_of, picked, place_of}
use Rattle.settings.specs.Settings.{absent, settings_of, completed, filled, unread, all_in}
use Rattle.settings.proofs.Values.{filled_first}
use Rattle.settings.proofs.Ranges.{all_append, all_from}

-- ---- the elements whose rows have a line

-- with every line, all of them
pub picked_all : {A : Type 0} (xs : List A) → picked heads xs ≡ xs
picked_all xs = take-append-drop heads xs

module _ {A : Type 0} (h : ℕ) (m : h ≤ heads) (xs : List A) (l : heads ≤ length xs) where
  pub picked_long : length (picked h xs) ≡ h + (length xs - heads)
  picked_long = simp (length-append, length-take, length-drop) (omega arith)

  -- its parts
  pub take_picked : take h (picked h xs) ≡ take h xs
  take_picked = take_at (take h xs) (drop heads xs) h (length-take-le h xs (omega arith))

  pub drop_picked : drop h (picked h xs) ≡ drop heads xs
  drop_picked = drop_at (take h xs) (drop heads xs) h (length-take-le h xs (omega arith))

  pub picked_append : (ys : List A) → picked h (xs ++ ys) ≡ picked h xs ++ ys
  picked_append ys =
      ap₂ (λ (ys zs : List A). ys ++ zs) (take-append-le h xs ys (omega arith)) (drop-append-le heads xs ys l)
      ∙ sym (append_assoc (take h xs) (drop heads xs) ys)

  pub picked_at : (i : ℕ) (d : A) → get_or (picked h xs) i d ≡ get_or xs (place_of h i) d
  picked_at i d = by_test (ltb i h) before after where
    n : length (take h xs) ≡ h
    n = length-take-le h xs (omega arith)

    before : ltb i h ≡ true → get_or (picked h xs) i d ≡ get_or xs (place_of h i) d
    before t = rw t (get_or-append (take h xs) (drop heads xs) d i (omega (arith, n, ltb-true i h t)) ∙ get_or-take h xs i d (ltb-true i h t))

    after : ltb i h ≡ false → get_or (picked h xs) i d ≡ get_or xs (place_of h i) d
    after t =
        let p : i ≡ length (take h xs) + (i - h) = omega (arith, n, ltb-false i h t) in
        let q : heads + (i - h) ≡ i + (heads - h) = omega (arith, ltb-false i h t) in
        rw t
        (ap (λ (j : ℕ). get_or (picked h xs) j d) p
        ∙ get_or-append-add (take h xs) (drop heads xs) (i - h) d
        ∙ get_or-drop heads xs (i - h) d
        ∙ ap (λ (j : ℕ). get_or xs j d) q)

-- ---- and those of all rows

set_append_add : {A : Type 0} (xs ys : List A) (i : ℕ) (z : A) → set (xs ++ ys) (length xs + i) z ≡ xs ++ set ys i z
set_append_add [] ys i z = rw zero-add
set_append_add (x ∷ xs) ys i z =
    let p : suc (length xs) + i ≡ suc (length xs + i) = omega arith in
    rw p (ap (λ (zs : List _). x ∷ zs) (set_append_add xs ys i z))

module _ (h : ℕ) (l : firsts ≤ h) (m : h ≤ heads) where
  -- as many values as there are lines left out
  left_long : length (drop (h - firsts) absent) ≡ heads - h
  left_long = simp length-drop (omega arith)

  module _ (vs : List ℤ) (n : h ≤ length vs) where
    front_long : length (take h vs) ≡ h
    front_long = length-take-le h vs n

    pub completed_long : length (completed h vs) ≡ heads - h + length vs
    completed_long = simp (length-append, length-take) (omega (arith, left_long, length-drop h vs))

    pub completed_append : (ws : List ℤ) → completed h (vs ++ ws) ≡ completed h vs ++ ws
    completed_append ws =
        let a = drop (h - firsts) absent in
        ap₂ (λ (xs ys : List ℤ). xs ++ (a ++ ys)) (take-append-le h vs ws n) (drop-append-le h vs ws n)
        ∙ simp append_assoc

    -- a value for each line, and back
    pub picked_completed : picked h (completed h vs) ≡ vs
    picked_completed =
        let a = drop (h - firsts) absent in
        let p : length (take h vs ++ a) ≡ heads = length-append (take h vs) a ∙ omega (arith, left_long, front_long) in
        ap₂ (λ (xs ys : List ℤ). xs ++ ys) (take_at (take h vs) (a ++ drop h vs) h front_long)
        (ap (drop heads) (sym (append_assoc (take h vs) a (drop h vs))) ∙ drop_at (take h vs ++ a) (drop h vs) heads p)
        ∙ take-append-drop h vs

  -- the first values alone
  pub completed_take : (vs : List ℤ) (k : ℕ) → h ≤ k → k ≤ length vs → completed h (take k vs) ≡ take (heads - h + k) (completed h vs)
  completed_take vs k p q =
      let n = length-take-le k vs q in
      sym
      (ap (λ (xs : List ℤ). take (heads - h + k) (completed h xs)) (sym (take-append-drop k vs))
      ∙ ap (take (heads - h + k)) (completed_append (take k vs) (omega arith) (drop k vs))
      ∙ take_at (completed h (take k vs)) (drop k vs) (heads - h + k) (completed_long (take k vs) (omega arith) ∙ omega (arith, n)))

  -- the value of line i
  pub completed_set : (vs : List ℤ) (i : ℕ) (z : ℤ) → h ≤ length vs → set (completed h vs) (place_of h i) z ≡ completed h (set vs i z)
  completed_set vs i z n = by_test (ltb i h) before after where
    a : List ℤ
    a = drop (h - firsts) absent

    before : ltb i h ≡ true → set (completed h vs) (place_of h i) z ≡ completed h (set vs i z)
    before t =
        let b = ltb-true i h t in
        rw (t, take-set-lt h vs i z b, drop-set-lt h vs i z b) (set-append_left (take h vs) (a ++ drop h vs) i z (omega (arith, front_long vs n)))

    after : ltb i h ≡ false → set (completed h vs) (place_of h i) z ≡ completed h (set vs i z)
    after t =
        let b = ltb-false i h t in
        let p : i ≡ h + (i - h) = omega (arith, b) in
        let q : i + (heads - h) ≡ length (take h vs) + (length a + (i - h)) = omega (arith, b, left_long, front_long vs n) in
        rw (t, take-set-le h vs i z b)
        (ap (λ (j : ℕ). set (completed h vs) j z) q
        ∙ set_append_add (take h vs) (a ++ drop h vs) (length a + (i - h)) z
        ∙ ap (λ (xs : List ℤ). take h vs ++ xs)
        (set_append_add a (drop h vs) (i - h) z
        ∙ ap (λ (xs : List ℤ). a ++ xs) (sym (ap (λ (j : ℕ). drop h (set vs j z)) p ∙ drop-set-add h vs (i - h) z))))

  -- ---- values within the ranges of their rows

  module _ (n : ℕ) where
    pub rows_picked : picked h (rows_of n) ≡ take h head_rows ++ each set_rows (numbers_from 0 n)
    unfolding rows_of
    rows_picked = ap (λ (rs : List Row). rs ++ each set_rows (numbers_from 0 n)) (take-append-le h head_rows (each set_rows (numbers_from 0 n)) m)

    rows_apart : rows_of n ≡ take h head_rows ++ (drop (h - firsts) later_rows ++ each set_rows (numbers_from 0 n))
    unfolding rows_of
    rows_apart =
        let p : h ≡ firsts + (h - firsts) = omega arith in
        ap (λ (rs : List Row). rs ++ each set_rows (numbers_from 0 n))
        (sym (take-append-drop h head_rows) ∙ ap (λ (rs : List Row). take h head_rows ++ rs) (ap (λ (j : ℕ). drop j head_rows) p ∙ drop-append-add first_rows later_rows (h - firsts)))
        ∙ append_assoc (take h head_rows) (drop (h - firsts) later_rows) (each set_rows (numbers_from 0 n))

    -- what stands for a line that is left out lies within the range of its row
    pub completed_in : (vs : List ℤ) → h ≤ length vs → all_in (picked h (rows_of n)) vs ≡ true → all_in (rows_of n) (completed h vs) ≡ true
    completed_in vs k e =
        let ss = each set_rows (numbers_from 0 n) in
        let rs = take h head_rows in
        let qs = drop (h - firsts) later_rows in
        let a = drop (h - firsts) absent in
        let p : length (take h vs) ≡ length rs = front_long vs k ∙ sym (length-take-le h head_rows m) in
        let q : length a ≡ length qs = length-drop (h - firsts) absent ∙ sym (length-drop (h - firsts) later_rows) in
        let b = both (all_in rs (take h vs)) (all_in ss (drop h vs))
        (sym (all_append rs ss (take h vs) (drop h vs) p) ∙ ap₂ all_in (sym rows_picked) (take-append-drop h vs) ∙ e) in
        ap (λ (x : List Row). all_in x (completed h vs)) rows_apart
        ∙ all_append rs (qs ++ ss) (take h vs) (a ++ drop h vs) p
        ∙ and b.0 (all_append qs ss a (drop h vs) q ∙ and (all_from (h - firsts) later_rows absent refl) b.1)

  -- and so do the values of the rows that have a line
  pub picked_in : (rs : List Row) (vs : List ℤ) → heads ≤ length rs → heads ≤ length vs → all_in rs vs ≡ true → all_in (picked h rs) (picked h vs) ≡ true
  picked_in rs vs k n e =
      let p : length (take h vs) ≡ length (take h rs) = length-take h vs ∙ omega (arith, length-take h rs) in
      let b = both (all_in (take h rs) (take h vs)) (all_in (drop h rs) (drop h vs))
      (sym (all_append (take h rs) (drop h rs) (take h vs) (drop h vs) p) ∙ ap₂ all_in (take-append-drop h rs) (take-append-drop h vs) ∙ e) in
      all_append (take h rs) (drop heads rs) (take h vs) (drop heads vs) p ∙ and b.0 (all_from heads rs vs e)

-- before any line is read, the values that stand for lines left out are there
pub unread_completed : (h : ℕ) → firsts ≤ h → h ≤ heads → completed h (picked h unread) ≡ unread
unread_completed h l m = by_test (eqb h firsts)
    (λ t. at (eqb-true h firsts t))
    (λ t. by_test (eqb h heads)
    (λ u. at (eqb-true h heads u))
    (λ u. let p : h ≡ suc firsts = omega (arith, eqb-false h firsts t, eqb-false h heads u) in at p))
  where
    at : {k : ℕ} → h ≡ k → completed h (picked h unread) ≡ completed k (picked k unread)
    at p = ap (λ (k : ℕ). completed k (picked k unread)) p

-- ---- all values, where those of the lines left out are the ones that stand for them

module _ (h : ℕ) (l : firsts ≤ h) (m : h ≤ heads) (vs : List ℤ) (n : length vs ≡ lines) (e : completed h (picked h vs) ≡ vs) where
  lines_long : length (picked h vs) ≡ lines_for h sets
  lines_long = picked_long h m vs (omega arith) ∙ omega arith

  -- the value of line i stored at its place
  pub picked_set : (i : ℕ) (z : ℤ) →
      (picked h (set vs (place_of h i) z) ≡ set (picked h vs) i z)
      × (completed h (picked h (set vs (place_of h i) z)) ≡ set vs (place_of h i) z)
  picked_set i z =
      let ws = picked h vs in
      let k = lines_long in
      let p : set vs (place_of h i) z ≡ completed h (set ws i z) =
      ap (λ (xs : List ℤ). set xs (place_of h i) z) (sym e) ∙ completed_set h l m ws i z (omega arith) in
      let q = ap (picked h) p ∙ picked_completed h l m (set ws i z) (rw length-set (omega arith)) in
      (q, ap (completed h) q ∙ sym p)

  -- those of the lines of k gain sets make the same settings
  pub filled_picked : (k : ℕ) → 1 ≤ k → k ≤ sets → filled k (settings_of (completed h (take (lines_for h k) (picked h vs)))) ≡ filled k (settings_of vs)
  filled_picked k a b =
      let j = lines_long in
      let p : heads - h + lines_for h k ≡ lines_for heads k = omega arith in
      ap (λ (xs : List ℤ). filled k (settings_of xs))
      (completed_take h l m (picked h vs) (lines_for h k) (omega arith) (omega arith) ∙ ap₂ take p e)
      ∙ filled_first k vs a b
