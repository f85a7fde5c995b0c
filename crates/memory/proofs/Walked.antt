-- Demand 3 over any law and any size of the memory: what an engine must show of one delivery, and what follows of every list.
use Prim.Native.Nat.{ℕ, zero, suc, ◌+◌, ◌-◌, ◌≤◌, ◌<◌}
use mathlib.Core.Path.{◌≡◌, refl, sym, ap, ap₂, ◌∙◌, subst}
use mathlib.Core.Bool.{Bool, true, false, cond, ◌&&◌}
use mathlib.Core.List.{List, [], ◌∷◌}
use native.Mathlib.Omega.{arith}
use native.Mathlib.Numerals.{add-one}
use borrow.Author.Tests.{eqb-true, eqb-false, ltb-true, ltb-false, leb-true, leb-false, eq-eqb, ne_eqb, lt-ltb, le-ltb, le-leb, lt-leb}
use lib.Dec.{eqb, ltb, leb}
use lib.ListN.{length, take}
use Rattle.whole.proofs.Truth.{both, by_test, chosen, cond_yes, cond_no}
use Rattle.command.specs.Sequence.{after, each}
use Rattle.memory.specs.Walk.{Law, Delivery, Answer, Kept, Walk, keeps, kept_answer, repeat_answer, keeping, named_refusal, refused_answer, answer_to, onward, kept}

abbrev pub Sent : Law → Type 0
Sent L = Delivery L.Command

-- ---- what is remembered

module _ (L : Law) where
  -- the last kept ones are as many as the smaller of n and the count m, and their numbers run up to m
  abbrev pub Runs : ℕ → ℕ → List (Kept L) → Type 0
  Runs zero m [] = zero ≡ zero
  Runs zero m (k ∷ ks) = ⊥
  Runs (suc n) zero [] = zero ≡ zero
  Runs (suc n) (suc m) [] = ⊥
  Runs (suc n) zero (k ∷ ks) = ⊥
  Runs (suc n) (suc m) (k ∷ ks) =
      (k.sent.number ≡ suc m) × (k.answer ≡ record { code = 0; output = k.answer.output; number = suc m }) × Runs n m ks

  pub runs_start : (n : ℕ) → Runs n 0 []
  runs_start zero = refl
  runs_start (suc n) = refl

  pub runs_take : (n m : ℕ) (ks : List (Kept L)) → Runs (suc n) m ks → Runs n m (take n ks)
  runs_take zero m ks r = refl
  runs_take (suc n) zero [] r = refl
  runs_take (suc n) (suc m) [] r = r
  runs_take (suc n) zero (k ∷ ks) r = r
  runs_take (suc n) (suc m) (k ∷ ks) r = (r.0, r.1, runs_take n m ks r.2)

  pub runs_length : (n m : ℕ) (ks : List (Kept L)) → Runs n m ks → length ks ≤ n
  runs_length zero m [] r = omega arith
  runs_length zero m (k ∷ ks) r = absurd r
  runs_length (suc n) m [] r = omega arith
  runs_length (suc n) zero (k ∷ ks) r = absurd r
  runs_length (suc n) (suc m) (k ∷ ks) r = let h = runs_length n m ks r.2 in omega arith

-- ---- a number that is not the next, looked up by its place

module _ (L : Law) (d : Sent L) (other : Answer L.Output) where
  -- the answer of place i, counted from the newest
  abbrev pub found_at : List (Kept L) → ℕ → Answer L.Output
  found_at [] i = other
  found_at (k ∷ ks) zero = cond (L.same k.sent.command d.command) (record { code = 0; output = k.answer.output; number = d.number }) other
  found_at (k ∷ ks) (suc i) = found_at ks i

  past_end : (ks : List (Kept L)) (i : ℕ) → length ks ≤ i → found_at ks i ≡ other
  past_end [] i h = refl
  past_end (k ∷ ks) zero h = absurd (omega arith)
  past_end (k ∷ ks) (suc i) h = past_end ks i (omega arith)

module _ (L : Law) (s : ℕ) (d : Sent L) (other : Answer L.Output) where
  -- s, the size of the memory, says nothing here
  pub not_this : (k : Kept L) (rest : Answer L.Output) → (d.number ≡ k.sent.number → ⊥) →
      cond (eqb d.number k.sent.number && L.same k.sent.command d.command) k.answer rest ≡ rest
  not_this k rest f = rw (ne_eqb d.number k.sent.number f)

  -- no kept one has a number above the last, or number 0
  pub above_all : (n m : ℕ) (ks : List (Kept L)) → Runs L n m ks → m < d.number → repeat_answer L s ks d other ≡ other
  above_all n m [] r h = refl
  above_all zero m (k ∷ ks) r h = absurd r
  above_all (suc n) zero (k ∷ ks) r h = absurd r
  above_all (suc n) (suc m) (k ∷ ks) r h =
      not_this k _ (λ e. omega (arith, e, r.0)) ∙ above_all n m ks r.2 (omega arith)

  pub zero_none : (n m : ℕ) (ks : List (Kept L)) → Runs L n m ks → d.number ≡ 0 → repeat_answer L s ks d other ≡ other
  zero_none n m [] r h = refl
  zero_none zero m (k ∷ ks) r h = absurd r
  zero_none (suc n) zero (k ∷ ks) r h = absurd r
  zero_none (suc n) (suc m) (k ∷ ks) r h = not_this k _ (λ e. omega (arith, e, r.0)) ∙ zero_none n m ks r.2 h

  here : (m : ℕ) (k : Kept L) (rest : Answer L.Output) (ks : List (Kept L)) → k.sent.number ≡ suc m →
      k.answer ≡ record { code = 0; output = k.answer.output; number = suc m } → rest ≡ other → d.number ≡ suc m →
      cond (eqb d.number k.sent.number && L.same k.sent.command d.command) k.answer rest
      ≡ found_at L d other (k ∷ ks) (suc m - d.number)
  here m k rest ks p q r e =
      let z : suc m - d.number ≡ 0 = omega arith in
      rw (z, eq-eqb d.number k.sent.number (e ∙ sym p), q, r, e)

  -- the kept one with a number stands at the place that the number says
  pub at_place : (n m : ℕ) (ks : List (Kept L)) → Runs L n m ks → d.number ≤ m →
      repeat_answer L s ks d other ≡ found_at L d other ks (m - d.number)
  at_place n m [] r h = refl
  at_place zero m (k ∷ ks) r h = absurd r
  at_place (suc n) zero (k ∷ ks) r h = absurd r
  at_place (suc n) (suc m) (k ∷ ks) r h =
      by_test (eqb d.number (suc m))
      (λ t. let e = eqb-true d.number (suc m) t in here m k _ ks r.0 r.1 (above_all n m ks r.2 (omega arith)) e)
      (λ t. let e = eqb-false d.number (suc m) t in
      not_this k _ (λ q. e (q ∙ r.0))
      ∙ at_place n m ks r.2 (le_before e h)
      ∙ ap (found_at L d other (k ∷ ks)) (suc_before e h))
    where
      le_before : {a b : ℕ} → (a ≡ suc b → ⊥) → a ≤ suc b → a ≤ b
      le_before {a} {b} f h = by_test (leb a b) (λ t. leb-true a b t) (λ t. let k = leb-false a b t in absurd (f (omega arith)))

      suc_before : {a b : ℕ} → (a ≡ suc b → ⊥) → a ≤ suc b → suc (b - a) ≡ suc b - a
      suc_before {a} {b} f h = let k = le_before f h in omega arith

-- ---- one delivery, in the order in which an engine tries it

module _ (L : Law) (n : ℕ) (w : Walk L) (d : Sent L) where
  -- the answer of a code where a walk stands: nothing is changed
  abbrev pub refusing : ℕ → Answer L.Output
  refusing code = record { code = code; output = L.output w.state; number = w.count }

  abbrev pub looked : Answer L.Output
  looked =
      cond (eqb d.number 0) (refusing 1)
      (cond (ltb w.count d.number) (refusing 3)
      (cond (leb n (w.count - d.number)) (refusing 1)
      (found_at L d (refusing 2) w.recent (w.count - d.number))))

  abbrev pub tried : Answer L.Output
  tried = cond (eqb (L.refusal w.state d.command) 0) (kept_answer L n w d) (refusing (L.refusal w.state d.command))

  abbrev pub served : Answer L.Output
  served = cond (eqb d.number (w.count + 1)) tried looked

  abbrev other : Answer L.Output
  other = refused_answer L n w d

  abbrev repeats : Answer L.Output
  repeats = repeat_answer L n w.recent d other

  named : (code : ℕ) → named_refusal L n w d ≡ code → refusing code ≡ other
  named code e = ap refusing (sym e)

  not_next : eqb d.number (w.count + 1) ≡ false → keeps L n w d ≡ false
  not_next e = rw e

  pub number_next : keeps L n w d ≡ true → (d.number ≡ w.count + 1) × (L.refusal w.state d.command ≡ 0)
  number_next e =
      let b = both (eqb d.number (w.count + 1)) (eqb (L.refusal w.state d.command) 0) e in
      (eqb-true d.number (w.count + 1) b.0, eqb-true (L.refusal w.state d.command) 0 b.1)

  module _ (r : Runs L n w.count w.recent) where
    tried_so : eqb d.number (w.count + 1) ≡ true → tried ≡ answer_to L n w d
    tried_so q =
        let e : d.number ≡ w.count + 1 = eqb-true d.number (w.count + 1) q in
        by_test (eqb (L.refusal w.state d.command) 0)
        (λ z. rw (q, z))
        (λ z. rw (q, z)
        (named (L.refusal w.state d.command)
        (rw (ne_eqb d.number 0 (λ t. omega (arith, t)), lt-leb (d.number + n) w.count (omega arith), lt-leb d.number w.count (omega arith), le-ltb (w.count + 1) d.number (omega arith)))
        ∙ sym (above_all L n d other n w.count w.recent r (omega arith))))

    looked_repeats : eqb d.number (w.count + 1) ≡ false → looked ≡ repeats
    looked_repeats q =
        let e = eqb-false d.number (w.count + 1) q in
        by_test (eqb d.number 0)
        (λ z. let o : d.number ≡ 0 = eqb-true d.number 0 z in
        cond_yes _ _ z ∙ named 1 (rw z) ∙ sym (zero_none L n d other n w.count w.recent r o))
        (λ z. let o = eqb-false d.number 0 z in
        cond_no _ _ z
        ∙ by_test (ltb w.count d.number)
        (λ g. let h : w.count < d.number = ltb-true w.count d.number g in
        cond_yes _ _ g
        ∙ named 3 (rw (z, lt-leb (d.number + n) w.count (omega arith), lt-leb d.number w.count h, lt-ltb (w.count + 1) d.number (omega arith)))
        ∙ sym (above_all L n d other n w.count w.recent r h))
        (λ g. let h : d.number ≤ w.count = ltb-false w.count d.number g in
        cond_no _ _ g
        ∙ by_test (leb n (w.count - d.number))
        (λ t. let k : n ≤ w.count - d.number = leb-true n (w.count - d.number) t in
        let m : length w.recent ≤ n = runs_length L n w.count w.recent r in
        cond_yes _ _ t
        ∙ named 1 (rw (z, le-leb (d.number + n) w.count (omega arith)))
        ∙ sym (past_end L d other w.recent (w.count - d.number) (omega arith))
        ∙ sym (at_place L n d other n w.count w.recent r h))
        (λ t. let k : w.count - d.number < n = leb-false n (w.count - d.number) t in
        cond_no _ _ t
        ∙ ap (λ (a : Answer L.Output). found_at L d a w.recent (w.count - d.number)) (named 2 (rw (z, lt-leb (d.number + n) w.count (omega arith), le-leb d.number w.count h)))
        ∙ sym (at_place L n d other n w.count w.recent r h))))

    -- what demand 3 gives a delivery is what the order gives it
    pub served_so : served ≡ answer_to L n w d
    served_so =
        by_test (eqb d.number (w.count + 1))
        (λ q. cond_yes _ _ q ∙ tried_so q)
        (λ q. cond_no _ _ q ∙ looked_repeats q ∙ sym (cond_no (kept_answer L n w d) repeats (not_next q)))

-- ---- what is remembered stays so

module _ (L : Law) where
  -- one more is kept: before the oldest leaves they are one more than n
  pub runs_more : (n : ℕ) (w : Walk L) (d : Sent L) → Runs L n w.count w.recent → keeps L n w d ≡ true →
      Runs L (suc n) (suc w.count) (record { sent = d; answer = kept_answer L n w d } ∷ w.recent)
  runs_more n w d r e = (
    (number_next L n w d e).0 ∙ add-one w.count,
    ap (λ (c : ℕ). record { code = 0; output = L.output (L.step w.state d.command); number = c }) (add-one w.count),
    r,
  )

  pub still_runs : (n : ℕ) (w : Walk L) (d : Sent L) → Runs L n w.count w.recent → Runs L n (onward L n w d).count (onward L n w d).recent
  still_runs n w d r =
      chosen (λ (x : Walk L). Runs L n x.count x.recent) (keeps L n w d)
      (λ e. subst (λ (c : ℕ). Runs L n c (take n (record { sent = d; answer = kept_answer L n w d } ∷ w.recent))) (sym (add-one w.count))
      (runs_take L n (suc w.count) _ (runs_more n w d r e)))
      (λ e. r)

-- ---- the walk is the law's over the kept commands

module _ (L : Law) (n : ℕ) (w : Walk L) (d : Sent L) (rest : List L.Command) where
  state_past : (b : Bool) → after L.step (cond b (keeping L n w d) w).state rest ≡ after L.step w.state (cond b (d.command ∷ rest) rest)
  unfolding after
  state_past true = refl
  state_past false = refl

  count_past : (b : Bool) → (cond b (keeping L n w d) w).count + length rest ≡ w.count + length (cond b (d.command ∷ rest) rest)
  count_past true = omega arith
  count_past false = refl

module _ (L : Law) (n : ℕ) where
  pub walked_state : (w : Walk L) (ds : List (Sent L)) → (after (onward L n) w ds).state ≡ after L.step w.state (kept L n w ds)
  unfolding after kept
  walked_state w [] = refl
  walked_state w (d ∷ ds) = walked_state (onward L n w d) ds ∙ state_past L n w d (kept L n (onward L n w d) ds) (keeps L n w d)

  pub walked_count : (w : Walk L) (ds : List (Sent L)) → (after (onward L n) w ds).count ≡ w.count + length (kept L n w ds)
  unfolding after kept
  walked_count w [] = omega arith
  walked_count w (d ∷ ds) = walked_count (onward L n w d) ds ∙ count_past L n w d (kept L n (onward L n w d) ds) (keeps L n w d)

  pub kept_most : (w : Walk L) (ds : List (Sent L)) → length (kept L n w ds) ≤ length ds
  unfolding kept
  kept_most w [] = omega arith
  kept_most w (d ∷ ds) =
      let h = kept_most (onward L n w d) ds in
      chosen (λ (cs : List L.Command). length cs ≤ length (d ∷ ds)) (keeps L n w d) (λ _. omega arith) (λ _. omega arith)

-- ---- every list of deliveries

-- What an engine shows: its records, what one delivery leaves and is answered, the record that stands where a walk stands,
-- and rules that hold again after each kept delivery
pub record Engine (L : Law) (n : ℕ) : Type 1 where
  pub Record : Type 0
  pub handed_back : Record → Sent L → Record
  pub answered : Record → Sent L → Answer L.Output
  pub at : Walk L → Record
  pub Rules : Walk L → Type 0
  pub keep_rules : (w : Walk L) (d : Sent L) → Rules w → keeps L n w d ≡ true → Rules (keeping L n w d)
  pub answers : (w : Walk L) (d : Sent L) → Rules w → Runs L n w.count w.recent → answered (at w) d ≡ served L n w d
  pub hands : (w : Walk L) (d : Sent L) → Rules w → Runs L n w.count w.recent → handed_back (at w) d ≡ at (onward L n w d)

module _ (L : Law) (n : ℕ) (E : Engine L n) where
  pub still_ruled : (w : Walk L) (d : Sent L) → E.Rules w → E.Rules (onward L n w d)
  still_ruled w d g = chosen E.Rules (keeps L n w d) (λ e. E.keep_rules w d g e) (λ e. g)

  pub ends : (w : Walk L) (ds : List (Sent L)) → E.Rules w → Runs L n w.count w.recent →
      after E.handed_back (E.at w) ds ≡ E.at (after (onward L n) w ds)
  unfolding after
  ends w [] g r = refl
  ends w (d ∷ ds) g r =
      ap (λ (x : E.Record). after E.handed_back x ds) (E.hands w d g r)
      ∙ ends (onward L n w d) ds (still_ruled w d g) (still_runs L n w d r)

  pub one_answer : (w : Walk L) (d : Sent L) → E.Rules w → Runs L n w.count w.recent → E.answered (E.at w) d ≡ answer_to L n w d
  one_answer w d g r = E.answers w d g r ∙ served_so L n w d r

  pub all_answers : (w : Walk L) (ds : List (Sent L)) → E.Rules w → Runs L n w.count w.recent →
      each E.handed_back E.answered (E.at w) ds ≡ each (onward L n) (answer_to L n) w ds
  unfolding each
  all_answers w [] g r = refl
  all_answers w (d ∷ ds) g r =
      ap₂ (λ (x : Answer L.Output) (xs : List (Answer L.Output)). x ∷ xs)
      (one_answer w d g r)
      (ap (λ (x : E.Record). each E.handed_back E.answered x ds) (E.hands w d g r)
      ∙ all_answers (onward L n w d) ds (still_ruled w d g) (still_runs L n w d r))
