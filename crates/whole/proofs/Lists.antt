-- Laws of lists by place, and of lists made element by element.
use Prim.Native.Nat.{ℕ, zero, suc, ◌+◌, ◌-◌, ◌<◌}
use mathlib.Core.Path.{◌≡◌, refl, sym, ap, ap₂, ◌∙◌}
use mathlib.Core.List.{List, [], ◌∷◌, ◌++◌, map}
use native.Mathlib.Numerals.{add-one}
use native.Mathlib.Omega.{arith}
use lib.ListN.{length, get_or, take, drop, set, length-drop}
use lib.Seq.{drop-cons, take_all, take-suc, take-suc-set}

-- a place that is there is read whatever stands past the end
pub get_d_any : {A : Type 0} (l : List A) (i : ℕ) (d e : A) → i < length l → get_or l i d ≡ get_or l i e
get_d_any [] i d e h = absurd (omega arith)
get_d_any (x ∷ xs) zero d e h = refl
get_d_any (x ∷ xs) (suc i) d e h = get_d_any xs i d e (omega arith)

-- what is left at a place is the element there and what is left after it
pub next : {A : Type 0} (s : List A) (i : ℕ) (d : A) → i < length s → drop i s ≡ get_or s i d ∷ drop (i + 1) s
next s i d h = rw (add-one, drop-cons s i d)

-- a part up to the end is all that is left
pub part_left : {A : Type 0} (s : List A) (i : ℕ) → take (length s - i) (drop i s) ≡ drop i s
part_left s i = take_all (length s - i) (drop i s) (rw length-drop (omega arith))

-- a place that is filled, and those before it
pub set_take : {A : Type 0} (l : List A) (i : ℕ) (x : A) → i < length l → take (i + 1) (set l i x) ≡ take i l ++ (x ∷ [])
set_take l i x h = rw add-one (take-suc-set l i x h)

-- a list whose front is that of another, and whose next place takes that one's element: its front is one longer
pub front_grows : {A : Type 0} (all l : List A) (i : ℕ) (x d : A) → i < length all → i < length l → x ≡ get_or all i d → take i l ≡ take i all →
    take (i + 1) (set l i x) ≡ take (i + 1) all
front_grows {A = A} all l i x d h k e f =
    set_take l i x k ∙ ap₂ (λ (xs : List A) (y : A). xs ++ (y ∷ [])) f e ∙ rw add-one (sym (take-suc all i d h))

-- and once that front is all of it
pub front_all : {A : Type 0} (all l : List A) (i n : ℕ) → i ≡ n → length l ≡ n → take i l ≡ take i all → l ≡ take n all
front_all {A = A} all l i n e long f =
    sym (take_all n l (omega (arith, long))) ∙ ap (λ (k : ℕ). take k l) (sym e) ∙ f ∙ ap (λ (k : ℕ). take k all) e

-- a list made of each element of another: its front, and what is left at a place
pub map_join : {A B : Type 0} (f : A → B) (xs ys : List A) → map f (xs ++ ys) ≡ map f xs ++ map f ys
map_join f [] ys = refl
map_join {B = B} f (x ∷ xs) ys = ap (λ (zs : List B). f x ∷ zs) (map_join f xs ys)

pub map_take : {A B : Type 0} (f : A → B) (n : ℕ) (xs : List A) → take n (map f xs) ≡ map f (take n xs)
map_take f zero xs = refl
map_take f (suc n) [] = refl
map_take {B = B} f (suc n) (x ∷ xs) = ap (λ (ys : List B). f x ∷ ys) (map_take f n xs)

-- done twice, where twice is nothing
pub map_twice : {A : Type 0} (f : A → A) → ((x : A) → f (f x) ≡ x) → (xs : List A) → map f (map f xs) ≡ xs
map_twice f e [] = refl
map_twice {A = A} f e (x ∷ xs) = ap₂ (λ (y : A) (ys : List A). y ∷ ys) (e x) (map_twice f e xs)

pub map_drop : {A B : Type 0} (f : A → B) (n : ℕ) (xs : List A) → drop n (map f xs) ≡ map f (drop n xs)
map_drop f zero xs = refl
map_drop f (suc n) [] = refl
map_drop f (suc n) (x ∷ xs) = map_drop f n xs
