-- Laws of lists by place: blocks, numbers that count up, and a test that every element passes.
use Prim.Native.Nat.{ℕ, zero, suc, ◌+◌, ◌*◌, ◌<◌}
use mathlib.Core.Path.{◌≡◌, refl, sym, ap, ◌∙◌}
use mathlib.Core.Bool.{Bool, true, ◌&&◌}
use mathlib.Core.List.{List, [], ◌∷◌, ◌++◌, append_assoc}
use native.Mathlib.Nat.{add-zero, zero-add}
use native.Mathlib.Omega.{arith}
use lib.ListN.{length, get_or, take, drop, length-append, get_or-append}
use lib.Seq.{get_or-append-add}
use Rattle.whole.proofs.Truth.{both, and}
use Rattle.settings.specs.Table.{each, numbers_from}

-- element j of block k is at place n k + j, where each block has n
pub each_at : {A B : Type 0} (n : ℕ) (f : B → List A) (bs : List B) (k j : ℕ) (d : A) (e : B) →
    ((b : B) → length (f b) ≡ n) → k < length bs → j < n → get_or (each f bs) (n * k + j) d ≡ get_or (f (get_or bs k e)) j d
each_at n f [] k j d e q h l = absurd (omega arith)
each_at n f (b ∷ bs) zero j d e q h l =
    let p : n * 0 + j ≡ j = omega arith in
    rw p (get_or-append (f b) (each f bs) d j (omega (arith, q b)))
each_at n f (b ∷ bs) (suc k) j d e q h l =
    let p : n * suc k + j ≡ length (f b) + (n * k + j) = omega (arith, q b) in
    rw p (get_or-append-add (f b) (each f bs) (n * k + j) d ∙ each_at n f bs k j d e q (omega arith) l)

pub each_long : {A B : Type 0} (n : ℕ) (f : B → List A) (bs : List B) → ((b : B) → length (f b) ≡ n) → length (each f bs) ≡ n * length bs
each_long n f [] q = omega arith
each_long n f (b ∷ bs) q = let h = each_long n f bs q in simp length-append (omega (arith, q b))

pub each_append : {A B : Type 0} (f : B → List A) (xs ys : List B) → each f (xs ++ ys) ≡ each f xs ++ each f ys
each_append f [] ys = refl
each_append f (x ∷ xs) ys =
    ap (λ (zs : List _). f x ++ zs) (each_append f xs ys) ∙ sym (append_assoc (f x) (each f xs) (each f ys))

pub numbers_long : (k n : ℕ) → length (numbers_from k n) ≡ n
numbers_long k zero = refl
numbers_long k (suc n) = ap suc (numbers_long (k + 1) n)

pub numbers_append : (k m n : ℕ) → numbers_from k (m + n) ≡ numbers_from k m ++ numbers_from (k + m) n
numbers_append k zero n = rw (zero-add n, add-zero k)
numbers_append k (suc m) n =
    let e : suc m + n ≡ suc (m + n) = omega arith in
    let d : k + 1 + m ≡ k + suc m = omega arith in
    rw e (ap (λ (ks : List ℕ). k ∷ ks) (numbers_append (k + 1) m n ∙ ap (λ (j : ℕ). numbers_from (k + 1) m ++ numbers_from j n) d))

pub numbers_at : (k n j : ℕ) → j < n → get_or (numbers_from k n) j 0 ≡ k + j
numbers_at k zero j h = absurd (omega arith)
numbers_at k (suc n) zero h = omega arith
numbers_at k (suc n) (suc j) h = numbers_at (k + 1) n j (omega arith) ∙ omega arith

-- ---- a test of every element

abbrev pub all : {A : Type 0} → (A → Bool) → List A → Bool
all f [] = true
all f (x ∷ xs) = f x && all f xs

-- what stands past the end passes it too
pub all_at : {A : Type 0} (f : A → Bool) (d : A) (xs : List A) → all f xs ≡ true → f d ≡ true → (i : ℕ) → f (get_or xs i d) ≡ true
all_at f d [] e n i = n
all_at f d (x ∷ xs) e n zero = (both (f x) (all f xs) e).0
all_at f d (x ∷ xs) e n (suc i) = all_at f d xs (both (f x) (all f xs) e).1 n i

pub all_both : {A : Type 0} (f : A → Bool) (xs ys : List A) → all f xs ≡ true → all f ys ≡ true → all f (xs ++ ys) ≡ true
all_both f [] ys p q = q
all_both f (x ∷ xs) ys p q = let b = both (f x) (all f xs) p in and b.0 (all_both f xs ys b.1 q)

pub all_take : {A : Type 0} (f : A → Bool) (xs : List A) (k : ℕ) → all f xs ≡ true → all f (take k xs) ≡ true
all_take f xs zero e = refl
all_take f [] (suc k) e = refl
all_take f (x ∷ xs) (suc k) e = let b = both (f x) (all f xs) e in and b.0 (all_take f xs k b.1)

pub all_drop : {A : Type 0} (f : A → Bool) (xs : List A) (k : ℕ) → all f xs ≡ true → all f (drop k xs) ≡ true
all_drop f xs zero e = e
all_drop f [] (suc k) e = refl
all_drop f (x ∷ xs) (suc k) e = all_drop f xs k (both (f x) (all f xs) e).1
