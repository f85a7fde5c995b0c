-- A loop with its memory is an engine of the plain law: one delivery to the record that stands where a walk stands.
use Prim.Native.Nat.{ℕ, zero, suc, ◌+◌, ◌-◌, ◌≤◌, ◌<◌}
use mathlib.Core.Path.{◌≡◌, refl, sym, ap, ap₂, ◌∙◌, subst}
use mathlib.Core.Bool.{true, false, cond}
use mathlib.Core.List.{List, [], ◌∷◌}
use native.Mathlib.Omega.{arith}
use borrow.Author.Tests.{eqb-true, eqb-false, ltb-true, ltb-false, leb-true, leb-false, eq-eqb, lt-ltb}
use lib.Dec.{eqb, ltb, leb}
use lib.IntN.{ℤ}
use lib.ListN.{length, take, get_or}
use Rattle.whole.specs.Numbers.{inside}
use Rattle.whole.proofs.Truth.{and, by_test, cond_yes, cond_no, push}
use Rattle.settings.specs.declared.Settings.{Settings}
use Rattle.command.specs.Command.{same}
use Rattle.record.specs.Record.{valid}
use Rattle.record.specs.Refusals.{refusal_of}
use Rattle.record.proofs.Rules.{holds_of}
use Rattle.pid.specs.Law.{step_of}
use Rattle.pid.proofs.Kept.{step_valid}
use Rattle.pid.proofs.Obeys.{settings_stay}
use Rattle.memory.specs.declared.Entry.{Entry}
use Rattle.memory.specs.declared.Found.{Found}
use Rattle.memory.specs.declared.Found.TheVariants.{Old, Reused, Repeated, Ahead, Next}
use Rattle.memory.specs.Memory.{window, entry_of, no_entry, entries_ok, memory_ok as memory_rules, is_last, found_in, found_of, remembered}
use Rattle.memory.specs.Walk.{Answer, Kept, Walk, keeps, kept_answer, keeping, onward}
use Rattle.memory.proofs.Order.{number_zero, number_old, number_within, number_ahead, number_next, Means, means}
use Rattle.memory.proofs.Walked.{Sent, Runs, found_at, refusing, looked, tried, served, Engine, number_next as kept_next}
use Rattle.delivery.specs.declared.numbered.Numbered.{Numbered}
use Rattle.delivery.specs.Numbered.{Delivered, record_of, kept_of, served_of, delivered_of}
use Rattle.delivery.specs.Demand3.{plain, answer_in, answered, handed_back}

-- ---- the places of a memory

abbrev entry_for : Kept plain → Entry
entry_for k = entry_of k.sent.command k.answer.output

-- n places that hold the last kept deliveries, newest first, blank where there are no more
unfoldable pub places : ℕ → List (Kept plain) → List Entry
places zero ks = []
places (suc n) [] = no_entry ∷ places n []
places (suc n) (k ∷ ks) = entry_for k ∷ places n ks

-- the record that stands where a walk stands
abbrev pub stands_at : Walk plain → Numbered
stands_at w = record_of w.state w.count (places window w.recent)

pub places_length : (n : ℕ) (ks : List (Kept plain)) → length (places n ks) ≡ n
unfolding places
places_length zero ks = refl
places_length (suc n) [] = ap suc (places_length n [])
places_length (suc n) (k ∷ ks) = ap suc (places_length n ks)

places_take : (n : ℕ) (ks : List (Kept plain)) → places n (take n ks) ≡ places n ks
unfolding places
places_take zero ks = refl
places_take (suc n) [] = refl
places_take (suc n) (k ∷ ks) = ap (λ (es : List Entry). entry_for k ∷ es) (places_take n ks)

take_places : (n : ℕ) (ks : List (Kept plain)) → take n (places (suc n) ks) ≡ places n ks
unfolding places
take_places zero ks = refl
take_places (suc n) [] = ap (λ (es : List Entry). no_entry ∷ es) (take_places n [])
take_places (suc n) (k ∷ ks) = ap (λ (es : List Entry). entry_for k ∷ es) (take_places n ks)

-- one more at the front, and the oldest leaves
pub places_more : (n : ℕ) (k : Kept plain) (ks : List (Kept plain)) → take n (entry_for k ∷ places n ks) ≡ places n (take n (k ∷ ks))
unfolding places
places_more zero k ks = refl
places_more (suc n) k ks = ap (λ (es : List Entry). entry_for k ∷ es) (take_places n ks ∙ sym (places_take n ks))

-- ---- what holds where a walk stands

-- every output that is remembered lies within lo..hi
abbrev pub AllIn : ℤ → ℤ → List (Kept plain) → Type 0
AllIn lo hi [] = zero ≡ zero
AllIn lo hi (k ∷ ks) = (inside lo hi k.answer.output ≡ true) × AllIn lo hi ks

all_take : (lo hi : ℤ) (n : ℕ) (ks : List (Kept plain)) → AllIn lo hi ks → AllIn lo hi (take n ks)
all_take lo hi zero ks a = refl
all_take lo hi (suc n) [] a = refl
all_take lo hi (suc n) (k ∷ ks) a = (a.0, all_take lo hi n ks a.1)

pub record Good (w : Walk plain) : Type 0 where
  pub rules : valid w.state ≡ true
  pub outputs : AllIn w.state.settings.lo w.state.settings.hi w.recent

pub keep_good : (w : Walk plain) (d : Sent plain) → Good w → keeps plain window w d ≡ true → Good (keeping plain window w d)
keep_good w d g e =
    let l = step_of w.state d.command in
    let v = step_valid w.state d.command g.rules (kept_next plain window w d e).1 in
    let a = subst (λ (s : Settings). AllIn s.lo s.hi w.recent) (sym (settings_stay w.state d.command)) g.outputs in
    record {
      rules = v;
      outputs = all_take _ _ window (record { sent = d; answer = kept_answer plain window w d } ∷ w.recent) ((holds_of l v).u, a);
    }

-- the memory's state rules
blank_ok : (lo hi : ℤ) (n : ℕ) → entries_ok 0 lo hi (places n []) ≡ true
unfolding places
blank_ok lo hi zero = refl
blank_ok lo hi (suc n) = blank_ok lo hi n

places_ok_lem : (lo hi : ℤ) (n m : ℕ) (ks : List (Kept plain)) → Runs plain n m ks → AllIn lo hi ks → entries_ok m lo hi (places n ks) ≡ true
unfolding places
places_ok_lem lo hi zero m ks r a = refl
places_ok_lem lo hi (suc n) zero [] r a = blank_ok lo hi n
places_ok_lem lo hi (suc n) (suc m) [] r a = absurd r
places_ok_lem lo hi (suc n) zero (k ∷ ks) r a = absurd r
places_ok_lem lo hi (suc n) (suc m) (k ∷ ks) r a =
    let e : suc m - 1 ≡ m = omega arith in
    rw (lt-ltb 0 (suc m) (omega arith), e, a.0) (places_ok_lem lo hi n m ks r.2 a.1)

-- ---- one delivery

module _ (w : Walk plain) (d : Sent plain) where
  abbrev s : Numbered
  s = stands_at w

  -- a delivery that is served by what its number is, answered
  abbrev serves : Found → Answer ℤ
  serves f = answer_in (served_of s d.number d.command f)

  found : (f : Found) → found_of s.memory d.number d.command ≡ f → serves (found_of s.memory d.number d.command) ≡ serves f
  found f e = ap serves e

  -- a number in the window: the command of its place decides
  at_place : (n : ℕ) (ks : List (Kept plain)) (i : ℕ) → i < n →
      serves (found_in (get_or (places n ks) i no_entry) d.command) ≡ found_at plain d (refusing plain window w d 2) ks i
  unfolding served_of found_in is_last places
  at_place zero ks i h = absurd (omega arith)
  at_place (suc n) [] zero h = refl
  at_place (suc n) [] (suc i) h = at_place n [] i (omega arith)
  at_place (suc n) (k ∷ ks) zero h = sym (push serves (same k.sent.command d.command) (Repeated (entry_for k)) Reused)
  at_place (suc n) (k ∷ ks) (suc i) h = at_place n ks i (omega arith)

  module _ (g : Good w) (r : Runs plain window w.count w.recent) where
    found_looked : eqb d.number (w.count + 1) ≡ false → serves (found_of s.memory d.number d.command) ≡ looked plain window w d
    unfolding served_of
    found_looked q =
        let f = eqb-false d.number (w.count + 1) q in
        by_test (eqb d.number 0)
        (λ z. found Old (number_zero _ _ _ (eqb-true d.number 0 z)) ∙ sym (cond_yes _ _ z))
        (λ z. let o = eqb-false d.number 0 z in
        by_test (ltb w.count d.number)
        (λ a. let h : w.count < d.number = ltb-true w.count d.number a in
        found Ahead (number_ahead _ _ _ h (omega arith)) ∙ sym (cond_no _ _ z ∙ cond_yes _ _ a))
        (λ a. let h : d.number ≤ w.count = ltb-false w.count d.number a in
        by_test (leb window (w.count - d.number))
        (λ t. let k : window ≤ w.count - d.number = leb-true window (w.count - d.number) t in
        found Old (number_old _ _ _ (omega arith)) ∙ sym (cond_no _ _ z ∙ cond_no _ _ a ∙ cond_yes _ _ t))
        (λ t. let k : w.count - d.number < window = leb-false window (w.count - d.number) t in
        found _ (number_within _ _ _ (record { some = o; reached = h; recent = omega arith }))
        ∙ at_place window w.recent (w.count - d.number) k
        ∙ sym (cond_no _ _ z ∙ cond_no _ _ a ∙ cond_no _ _ t))))

    memory_ok_lem : memory_rules w.state.settings.lo w.state.settings.hi s.memory ≡ true
    unfolding memory_rules
    memory_ok_lem =
        and (eq-eqb _ window (places_length window w.recent))
        (places_ok_lem w.state.settings.lo w.state.settings.hi window w.count w.recent r g.outputs)

    delivered_at : delivered_of s d.number d.command ≡ served_of s d.number d.command (found_of s.memory d.number d.command)
    unfolding delivered_of
    delivered_at = cond_yes _ _ (and memory_ok_lem g.rules)

    next_found : d.number ≡ w.count + 1 → found_of s.memory d.number d.command ≡ Next
    next_found e = number_next d.number w.count _ (omega arith) e

    tried_at : d.number ≡ w.count + 1 → serves Next ≡ tried plain window w d
    unfolding served_of remembered
    tried_at e =
        sym (push answer_in (eqb (refusal_of w.state d.command) 0) _ _)
        ∙ ap (λ (n : ℕ). cond (eqb (refusal_of w.state d.command) 0)
        (record { code = 0; output = (step_of w.state d.command).u; number = n })
        (refusing plain window w d (refusal_of w.state d.command))) e

    pub answers_at : answered s d ≡ served plain window w d
    answers_at =
        ap answer_in delivered_at
        ∙ by_test (eqb d.number (w.count + 1))
        (λ q. let e : d.number ≡ w.count + 1 = eqb-true d.number (w.count + 1) q in
        found Next (next_found e) ∙ tried_at e ∙ sym (cond_yes _ _ q))
        (λ q. found_looked q ∙ sym (cond_no _ _ q))

    -- the record after a kept delivery
    kept_record : d.number ≡ w.count + 1 → kept_of s (step_of w.state d.command) d.number d.command ≡ stands_at (keeping plain window w d)
    unfolding remembered
    kept_record e =
        ap₂ (record_of (step_of w.state d.command)) e
        (places_more window (record { sent = d; answer = kept_answer plain window w d }) w.recent)

    not_next : eqb d.number (w.count + 1) ≡ false → found_of s.memory d.number d.command ≡ Next → ⊥
    not_next q n =
        eqb-false d.number (w.count + 1) q
        (subst (Means s.memory d.number d.command) n (means s.memory d.number d.command))

    -- what is not the next number leaves the record
    left_alone : (f : Found) → (f ≡ Next → ⊥) → (served_of s d.number d.command f).state ≡ s
    unfolding served_of
    left_alone Old h = refl
    left_alone Reused h = refl
    left_alone (Repeated e) h = refl
    left_alone Ahead h = refl
    left_alone Next h = absurd (h refl)

    pub hands_at : handed_back s d ≡ stands_at (onward plain window w d)
    unfolding served_of
    hands_at =
        ap (λ (x : Delivered). x.state) delivered_at
        ∙ by_test (eqb d.number (w.count + 1))
        (λ q. let e : d.number ≡ w.count + 1 = eqb-true d.number (w.count + 1) q in
        ap (λ (f : Found). (served_of s d.number d.command f).state) (next_found e)
        ∙ rw q (by_test (eqb (refusal_of w.state d.command) 0) (λ z. rw z (kept_record e)) (λ z. rw z)))
        (λ q. left_alone (found_of s.memory d.number d.command) (λ n. not_next q n) ∙ rw q)

abbrev pub numbered : Engine plain window
numbered = record {
  Record = Numbered;
  handed_back = handed_back;
  answered = answered;
  at = stands_at;
  Rules = Good;
  keep_rules = keep_good;
  answers = answers_at;
  hands = hands_at;
}
