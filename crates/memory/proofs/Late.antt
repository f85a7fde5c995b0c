-- A late repeat, over any law and any size of the memory: as long as a kept delivery is among the last n, the same delivery gets the
-- same answer and changes nothing.
use Prim.Native.Nat.{ℕ, zero, suc, ◌+◌, ◌≤◌, ◌<◌}
use mathlib.Core.Path.{◌≡◌, refl, sym, ap, ◌∙◌}
use mathlib.Core.Bool.{Bool, true, false, cond, ◌&&◌, ◌||◌}
use mathlib.Core.List.{List, [], ◌∷◌}
use native.Mathlib.Omega.{arith}
use borrow.Author.Tests.{eq-eqb, ne_eqb, leb-true, leb-false, ltb-false}
use lib.Dec.{eqb, ltb, leb}
use lib.ListN.{take}
use Rattle.whole.proofs.Truth.{never, and, by_test, cond_yes, cond_no, zero_else}
use Rattle.command.specs.Sequence.{after}
use Rattle.memory.specs.Walk.{Law, Answer, Kept, Walk, keeps, kept_answer, repeat_answer, keeping, named_refusal, refused_answer, answer_to, onward}
use Rattle.memory.proofs.Walked.{Sent, Runs, not_this, above_all, refusing, number_next, runs_more, still_runs, walked_count, Engine, still_ruled, ends, one_answer}

-- ---- what is found stays found

module _ (L : Law) (n : ℕ) (d : Sent L) where
  -- that some answer is given to d whatever else would be
  abbrev Gives : List (Kept L) → Answer L.Output → Type 0
  Gives ks a = (other : Answer L.Output) → repeat_answer L n ks d other ≡ a

  -- either d is a repeat of one of these, or of none
  repeat_or_not : {P : Type 0} (ks : List (Kept L)) → ((a : Answer L.Output) → Gives ks a → P) →
      (((other : Answer L.Output) → repeat_answer L n ks d other ≡ other) → P) → P
  repeat_or_not [] f g = g (λ _. refl)
  repeat_or_not (k ∷ ks) f g =
      by_test (eqb d.number k.sent.number && L.same k.sent.command d.command)
      (λ t. f k.answer (λ other. cond_yes _ _ t))
      (λ t. repeat_or_not ks (λ a e. f a (λ other. cond_no _ _ t ∙ e other)) (λ e. g (λ other. cond_no _ _ t ∙ e other)))

  module _ (other : Answer L.Output) where
    -- what leaves the last m has an older number
    still_among : (m c : ℕ) (ks : List (Kept L)) → Runs L (suc m) c ks → c < d.number + m →
        repeat_answer L n (take m ks) d other ≡ repeat_answer L n ks d other
    still_among zero c [] r h = refl
    still_among zero zero (k ∷ ks) r h = absurd r
    still_among zero (suc c) (k ∷ []) r h = sym (not_this L n d other k other (λ e. omega (arith, e, r.0)))
    still_among zero (suc c) (k ∷ j ∷ ks) r h = absurd r.2
    still_among (suc m) c [] r h = refl
    still_among (suc m) zero (k ∷ ks) r h = absurd r
    still_among (suc m) (suc c) (k ∷ ks) r h =
        ap (λ (a : Answer L.Output). cond (eqb d.number k.sent.number && L.same k.sent.command d.command) k.answer a)
        (still_among m c ks r.2 (omega arith))

    module _ (w : Walk L) (r : Runs L n w.count w.recent) where
      -- d's own entry, once it is kept
      kept_among : L.same d.command d.command ≡ true → 1 ≤ n → keeps L n w d ≡ true →
          repeat_answer L n (keeping L n w d).recent d other ≡ kept_answer L n w d
      kept_among same some e =
          let q = (number_next L n w d e).0 in
          still_among n (suc w.count) _ (runs_more L n w d r e) (omega (arith, q))
          ∙ cond_yes _ _ (and (eq-eqb d.number d.number refl) same)

      -- past a delivery
      pub still_found : (e : Sent L) → d.number ≤ w.count → (onward L n w e).count < d.number + n →
          repeat_answer L n (onward L n w e).recent d other ≡ repeat_answer L n w.recent d other
      still_found e h b =
          by_test (keeps L n w e)
          (λ t. let q = (number_next L n w e t).0 in
          let c : suc w.count < d.number + n = past (cond_yes _ _ t) b in
          ap (λ (v : Walk L). repeat_answer L n v.recent d other) (cond_yes (keeping L n w e) w t)
          ∙ still_among n (suc w.count) _ (runs_more L n w e r t) c
          ∙ not_this L n d other _ _ (λ z. omega (arith, z, q)))
          (λ t. ap (λ (v : Walk L). repeat_answer L n v.recent d other) (cond_no (keeping L n w e) w t))
        where
          past : onward L n w e ≡ keeping L n w e → (onward L n w e).count < d.number + n → suc w.count < d.number + n
          past p b = let q = ap (λ (v : Walk L). v.count) p in omega (arith, q)

-- ---- past a list of deliveries

module _ (L : Law) (n : ℕ) where
  count_grows : (w : Walk L) (es : List (Sent L)) → w.count ≤ (after (onward L n) w es).count
  count_grows w es = let c = walked_count L n w es in omega (arith, c)

  one_grows : (w : Walk L) (e : Sent L) → w.count ≤ (onward L n w e).count
  unfolding after
  one_grows w e = count_grows w (e ∷ [])

  runs_after : (w : Walk L) (es : List (Sent L)) → Runs L n w.count w.recent →
      Runs L n (after (onward L n) w es).count (after (onward L n) w es).recent
  unfolding after
  runs_after w [] r = r
  runs_after w (e ∷ es) r = runs_after (onward L n w e) es (still_runs L n w e r)

  found_after : (d : Sent L) (other : Answer L.Output) (w : Walk L) (es : List (Sent L)) → Runs L n w.count w.recent →
      d.number ≤ w.count → (after (onward L n) w es).count < d.number + n →
      repeat_answer L n (after (onward L n) w es).recent d other ≡ repeat_answer L n w.recent d other
  unfolding after
  found_after d other w [] r h b = refl
  found_after d other w (e ∷ es) r h b =
      let g = one_grows w e in
      let k = count_grows (onward L n w e) es in
      found_after d other (onward L n w e) es (still_runs L n w e r) (omega arith) b ∙ still_found L n d other w r e h (omega arith)

-- ---- the same answer, and nothing changes

-- what a delivery with code 0 leaves: its number is reached, and its answer is given again
record Answered (L : Law) (n : ℕ) (w : Walk L) (d : Sent L) : Type 0 where
  reached : d.number ≤ (onward L n w d).count
  again : (other : Answer L.Output) → repeat_answer L n (onward L n w d).recent d other ≡ answer_to L n w d

module _ (L : Law) (n : ℕ) (w : Walk L) (d : Sent L) (r : Runs L n w.count w.recent) where
  kept_answered : L.same d.command d.command ≡ true → (onward L n w d).count < d.number + n → keeps L n w d ≡ true → Answered L n w d
  kept_answered same b e =
      let q = (number_next L n w d e).0 in
      let o : onward L n w d ≡ keeping L n w d = cond_yes _ _ e in
      let c = ap (λ (v : Walk L). v.count) o in
      record {
        reached = omega (arith, q, c);
        again = λ other.
            ap (λ (v : Walk L). repeat_answer L n v.recent d other) o ∙ kept_among L n d other w r same (omega (arith, q, c)) e ∙ sym (cond_yes _ _ e);
      }

  -- what is not kept and no repeat is refused
  refused_some : keeps L n w d ≡ false → named_refusal L n w d ≡ 0 → ⊥
  refused_some e z =
      let a = zero_else (eqb d.number 0 || leb (d.number + n) w.count) 0 _ z in
      let b = zero_else (leb d.number w.count) 1 _ a.1 in
      let c = zero_else (ltb (w.count + 1) d.number) 2 _ b.1 in
      let h = leb-false d.number w.count b.0 in
      let k = ltb-false (w.count + 1) d.number c.0 in
      never (sym e ∙ and (eq-eqb d.number (w.count + 1) (omega arith)) (eq-eqb _ 0 c.1))

  -- a repeat of one of those kept has a number that is reached
  repeat_reached : (a : Answer L.Output) → Gives L n d w.recent a → a.code ≡ 0 → d.number ≤ w.count
  repeat_reached a f z =
      by_test (leb d.number w.count) (λ t. leb-true d.number w.count t)
      (λ t. let other = refusing L n w d 1 in
      let e = sym (above_all L n d other n w.count w.recent r (leb-false d.number w.count t)) ∙ f other in
      absurd (omega (arith, ap (λ (b : Answer L.Output). b.code) e ∙ z)))

  repeat_answered : keeps L n w d ≡ false → (answer_to L n w d).code ≡ 0 → Answered L n w d
  repeat_answered e z =
      let o : onward L n w d ≡ w = cond_no _ _ e in
      let other = refused_answer L n w d in
      let t : answer_to L n w d ≡ repeat_answer L n w.recent d other = cond_no _ _ e in
      repeat_or_not L n d w.recent
      (λ a f. let s : answer_to L n w d ≡ a = t ∙ f other in
      let h = repeat_reached a f (sym (code s) ∙ z) in
      let c = ap (λ (v : Walk L). v.count) o in
      record {
        reached = omega (arith, h, c);
        again = λ x. ap (λ (v : Walk L). repeat_answer L n v.recent d x) o ∙ f x ∙ sym s;
      })
      (λ f. absurd (refused_some e (sym (code (t ∙ f other)) ∙ z)))
    where
      code : {a b : Answer L.Output} → a ≡ b → a.code ≡ b.code
      code p = ap (λ (a : Answer L.Output). a.code) p

  answered_once : L.same d.command d.command ≡ true → (onward L n w d).count < d.number + n → (answer_to L n w d).code ≡ 0 → Answered L n w d
  answered_once same b z = by_test (keeps L n w d) (λ e. kept_answered same b e) (λ e. repeat_answered e z)

  module _ (same : L.same d.command d.command ≡ true) (es : List (Sent L)) where
    abbrev later : Walk L
    later = after (onward L n) (onward L n w d) es

    late_facts : (answer_to L n w d).code ≡ 0 → later.count < d.number + n → (answer_to L n later d ≡ answer_to L n w d) × (onward L n later d ≡ later)
    late_facts z b =
        let g = count_grows L n (onward L n w d) es in
        let a = answered_once same (omega arith) z in
        let h = a.reached in
        let f : keeps L n later d ≡ false = ap (λ (t : Bool). t && eqb (L.refusal later.state d.command) 0) (ne_eqb d.number (later.count + 1) (λ q. omega (arith, q))) in (
          cond_no _ _ f
              ∙ found_after L n d (refused_answer L n later d) (onward L n w d) es (still_runs L n w d r) h b
              ∙ a.again (refused_answer L n later d),
          cond_no _ _ f,
        )

-- of any engine of the law
module _ (L : Law) (n : ℕ) (E : Engine L n) where
  rules_after : (w : Walk L) (es : List (Sent L)) → E.Rules w → E.Rules (after (onward L n) w es)
  unfolding after
  rules_after w [] g = g
  rules_after w (e ∷ es) g = rules_after (onward L n w e) es (still_ruled L n E w e g)

module _ (L : Law) (n : ℕ) (E : Engine L n) (w : Walk L) (d : Sent L) (es : List (Sent L)) where
  abbrev next : E.Record
  next = E.handed_back (E.at w) d

  pub late : L.same d.command d.command ≡ true → E.Rules w → Runs L n w.count w.recent → (E.answered (E.at w) d).code ≡ 0 →
      (after (onward L n) (onward L n w d) es).count < d.number + n →
      (E.answered (after E.handed_back next es) d ≡ E.answered (E.at w) d)
      × (E.handed_back (after E.handed_back next es) d ≡ after E.handed_back next es)
  unfolding after
  late same g r z b =
      let v = onward L n w d in
      let u = after (onward L n) v es in
      let first = one_answer L n E w d g r in
      let e : after E.handed_back next es ≡ E.at u = ends L n E w (d ∷ es) g r in
      let f = late_facts L n w d r same es (sym (ap (λ (a : Answer L.Output). a.code) first) ∙ z) b in
      let g' = rules_after L n E w (d ∷ es) g in
      let r' = runs_after L n v es (still_runs L n w d r) in (
        ap (λ (x : E.Record). E.answered x d) e ∙ one_answer L n E u d g' r' ∙ f.0 ∙ sym first,
        ap (λ (x : E.Record). E.handed_back x d) e ∙ E.hands u d g' r' ∙ ap E.at f.1 ∙ sym e,
      )
