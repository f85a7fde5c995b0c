-- Laws of bytes that are put into a buffer: `sets buffer at bytes`, which passes over places that are not there.
use Prim.Native.Nat.{ℕ, zero, suc, ◌+◌, ◌-◌, ◌<◌, ◌≤◌, min}
use mathlib.Core.Path.{◌≡◌, refl, sym, ap, ap₂, ◌∙◌}
use mathlib.Core.List.{List, [], ◌∷◌, ◌++◌, append-nil, append_assoc}
use native.Mathlib.Nat.{add-zero, add-suc, suc-add}
use native.Mathlib.Numerals.{add-one}
use native.Mathlib.Omega.{arith}
use lib.ListN.{length, take, drop, set, get_or, length-append, length-take, length-set}
use lib.Seq.{sets, sets-eq, set_out, take_at, drop-length}
use borrow.Rule.Slice.PartMut.{post_of, put_mid, Post-is}
use Rattle.whole.proofs.Lists.{next, part_left}

-- one part after the other
pub sets_append : {A : Type 0} (l : List A) (i : ℕ) (a b : List A) → sets l i (a ++ b) ≡ sets (sets l i a) (i + length a) b
sets_append l i [] b = simp add-zero
sets_append l i (x ∷ a) b = sets_append (set l i x) (suc i) a b ∙ simp (add-suc, suc-add)

-- past the end nothing is stored
pub sets_out : (l : List ℕ) (i : ℕ) (vs : List ℕ) → length l ≤ i → sets l i vs ≡ l
sets_out l i [] h = refl
sets_out l i (v ∷ vs) h =
    ap (λ (s : List ℕ). sets s (suc i) vs) (set_out l i v h) ∙ sets_out l (suc i) vs (omega arith)

-- one more byte
pub sets_next : (l : List ℕ) (k : ℕ) (bytes : List ℕ) (j : ℕ) → j < length bytes →
    sets l k (drop j bytes) ≡ sets (set l k (get_or bytes j 0)) (k + 1) (drop (j + 1) bytes)
sets_next l k bytes j h =
    ap (sets l k) (next bytes j 0 h) ∙ ap (λ (n : ℕ). sets (set l k (get_or bytes j 0)) n (drop (j + 1) bytes)) (sym (add-one k))

-- of bytes that reach past the end only those before it are stored
pub sets_front : (l : List ℕ) (at : ℕ) (bytes : List ℕ) (k : ℕ) → k ≤ length bytes → (k < length bytes → length l ≤ at + k) →
    sets l at bytes ≡ sets l at (take k bytes)
sets_front l at [] zero h past = refl
sets_front l at [] (suc k) h past = refl
sets_front l at (b ∷ bytes) zero h past = sets_out l at (b ∷ bytes) (omega (arith, past))
sets_front l at (b ∷ bytes) (suc k) h past =
    sets_front (set l at b) (suc at) bytes k (omega arith) (λ less. omega (arith, past (omega arith), length-set l at b))

-- a part of a buffer up to j, as many bytes as are stored, once it is back
pub part_stored : (l : List ℕ) (at j : ℕ) (bytes part : List ℕ) → at ≤ length l → j ≡ at + min (length bytes) (length l - at) →
    part ≡ take (j - at) bytes → put_mid at (j - at) l part ≡ sets l at bytes
part_stored l at j bytes part h e p =
    let k = j - at in
    let long : length (take k bytes) ≡ k = length-take k bytes ∙ omega arith in
    let end : at + length (take k bytes) ≡ j = omega arith in
    ap₂ (λ (s t : List ℕ). take at l ++ (s ++ t)) p (Post-is at j l (omega arith) ∙ ap (λ (n : ℕ). drop n l) (sym end))
    ∙ sym (append_assoc (take at l) (take k bytes) (drop (at + length (take k bytes)) l))
    ∙ sym (sets_front l at bytes k (omega arith) (λ less. omega arith) ∙ sets-eq (take k bytes) l at (omega arith))

-- what is left to put once its first part is put
pub rest_stored : {all l₁ : List ℕ} {next : ℕ} (l₀ : List ℕ) (at : ℕ) (first rest : List ℕ) →
    all ≡ first ++ rest → next ≡ at + length first → l₁ ≡ sets l₀ at first →
    (at + length all ≡ next + length rest) × (sets l₀ at all ≡ sets l₁ next rest)
rest_stored {all} {l₁} {next} l₀ at first rest e n s =
    (omega (arith, ap length e ∙ length-append first rest), cc (sets_append l₀ at first rest))

-- a whole text, put from the first byte on, leaves what stands after it
pub front_stored : (l text : List ℕ) → length text ≤ length l → sets l 0 text ≡ text ++ drop (length text) l
front_stored l text h =
    let z : 0 + length text ≡ length text = omega arith in
    sets-eq text l 0 (omega arith) ∙ rw z

-- and its part of what it was put into is the text
pub text_part : (l text : List ℕ) (n : ℕ) → n ≡ length text → length text ≤ length l → take n (sets l 0 text) ≡ text
text_part l text n e h = ap (take n) (front_stored l text h) ∙ take_at text (drop (length text) l) n (sym e)

-- ---- a text put into the rest of a buffer, from place at on

sets_behind : (x : ℕ) (l : List ℕ) (i : ℕ) (vs : List ℕ) → sets (x ∷ l) (suc i) vs ≡ x ∷ sets l i vs
sets_behind x l i [] = refl
sets_behind x l i (v ∷ vs) = sets_behind x (set l i v) (suc i) vs

rest_put : (l : List ℕ) (at : ℕ) (text : List ℕ) → at ≤ length l → take at l ++ sets (drop at l) 0 text ≡ sets l at text
rest_put l zero text h = refl
rest_put [] (suc k) text h = absurd (omega arith)
rest_put (x ∷ l) (suc k) text h = ap (λ (s : List ℕ). x ∷ s) (rest_put l k text (omega arith)) ∙ sym (sets_behind x l k text)

-- the buffer once the rest, which was lent, is back
pub rest_back : (l : List ℕ) (at : ℕ) (text : List ℕ) → at ≤ length l →
    put_mid at (length l - at) l (sets (take (length l - at) (drop at l)) 0 text) ≡ sets l at text
rest_back l at text h =
    let e : post_of at (length l - at) l ≡ [] = Post-is at (length l) l h ∙ drop-length l in
    ap₂ (λ (s t : List ℕ). take at l ++ (sets s 0 text ++ t)) (part_left l at) e
    ∙ ap (λ (s : List ℕ). take at l ++ s) (append-nil (sets (drop at l) 0 text))
    ∙ rest_put l at text h
