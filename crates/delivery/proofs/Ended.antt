-- A list of deliveries, from any record that keeps the state rules: the law's end, the count, what is remembered, the answers.
use Prim.Native.Nat.{ℕ, zero, suc, ◌+◌, ◌-◌}
use mathlib.Core.Path.{◌≡◌, refl, sym, ap, ap₂, subst, ◌∙◌}
use mathlib.Core.Bool.{Bool, true, false}
use mathlib.Core.List.{List, [], ◌∷◌}
use native.Mathlib.Omega.{arith}
use borrow.Author.Tests.{lt-ltb}
use lib.Dec.{eqb, ltb}
use lib.IntN.{ℤ, pos, ◌+ℤ◌}
use lib.ListN.{length}
use lib.Seq.{take_all}
use Rattle.whole.proofs.Truth.{never, and, both, by_test}
use Rattle.whole.proofs.Parts.{eq_z_yes}
use Rattle.command.specs.declared.Command.{Command}
use Rattle.record.specs.declared.Loop.{Loop}
use Rattle.record.specs.Record.{valid}
use Rattle.record.specs.Refusals.{refusal_of}
use Rattle.pid.specs.Law.{step_of}
use Rattle.command.specs.Sequence.{after, each}
use Rattle.pid.specs.Run.{accepted, unbroken, shares}
use Rattle.pid.proofs.Shares.{run_shares}
use Rattle.std.specs.declared.option.Option.{Option}
use Rattle.std.specs.declared.option.Option.TheVariants.{None, Some}
use Rattle.memory.specs.declared.Entry.{Entry}
use Rattle.memory.specs.Memory.{window, entry_of, no_entry, holds_ok, entries_ok}
use Rattle.memory.specs.Walk.{Kept, Walk, keeps, kept_answer, keeping, onward, answer_to, kept}
use Rattle.memory.proofs.Rules.{places_long, places_ok_lem}
use Rattle.memory.proofs.Filled.{one_by_one, at_once}
use Rattle.memory.proofs.Walked.{Sent, Runs, walked_state, walked_count, ends, all_answers}
use Rattle.delivery.specs.declared.numbered.Numbered.{Numbered}
use Rattle.delivery.specs.Numbered.{record_of, memory_ok, valid_of}
use Rattle.delivery.specs.Demand3.{plain, answered, handed_back, kept_entries, after_kept, recalled_by, recalled, standing, kept_on}
use Rattle.delivery.proofs.Stands.{places, stands_at, places_length, places_more, AllIn, Good, numbered}
use Rattle.delivery.proofs.Served.{delivered_valid}

-- ---- what is remembered

-- the places one by one
walked_places : (w : Walk plain) (ds : List (Sent plain)) →
    places window (after (onward plain window) w ds).recent ≡ one_by_one window (places window w.recent) (kept_entries w.state (kept plain window w ds))
unfolding after each kept
walked_places w [] = refl
walked_places w (d ∷ ds) =
    walked_places (onward plain window w d) ds
    ∙ by_test (keeps plain window w d)
    (λ e. rw e (ap (λ (es : List Entry). one_by_one window es (kept_entries (step_of w.state d.command) (kept plain window (keeping plain window w d) ds)))
    (sym (places_more window (record { sent = d; answer = kept_answer plain window w d }) w.recent))))
    (λ e. rw e)

-- what is left after a list, said of the kept commands
pub end_after : (w : Walk plain) (ds : List (Sent plain)) → Good w → Runs plain window w.count w.recent →
    after handed_back (stands_at w) ds ≡ after_kept (stands_at w) (kept plain window w ds)
end_after w ds g r =
    let old = places window w.recent in
    let es = kept_entries w.state (kept plain window w ds) in
    ends plain window numbered w ds g r
    ∙ record_is (walked_state plain window w ds) (walked_count plain window w ds)
    (walked_places w ds ∙ at_once window old es (take_all window old (rw (places_length window w.recent) (omega arith))))
  where
    record_is : {l l' : Loop} {n n' : ℕ} {es es' : List Entry} → l ≡ l' → n ≡ n' → es ≡ es' → record_of l n es ≡ record_of l' n' es'
    record_is p q r = rw (p, q, r)

-- ---- a record that keeps the state rules, also one never reached, stands where a walk stands

module _ (lo hi : ℤ) where
  -- past the last number every place is blank
  blank_at : (l : Option Command) (output : ℤ) (es : List Entry) → holds_ok false lo hi l output ≡ true → places (length es) [] ≡ es →
      no_entry ∷ places (length es) [] ≡ record { command = l; output = output } ∷ es
  blank_at None output es h e =
      ap₂ (λ (x : ℤ) (xs : List Entry). record { command = None; output = x } ∷ xs) (sym (eq_z_yes output (pos 0) h)) e
  blank_at (Some c) output es h e = never h

  all_blank : (es : List Entry) → entries_ok 0 lo hi es ≡ true → places (length es) [] ≡ es
  unfolding places
  all_blank [] h = refl
  all_blank (e ∷ es) h =
      let b = both (holds_ok false lo hi e.command e.output) (entries_ok 0 lo hi es) h in
      blank_at e.command e.output es b.0 (all_blank es b.1)

  -- what the last kept ones of a memory are
  abbrev Recalls : ℕ → List Entry → List (Kept plain) → Type 0
  Recalls m es ks = (places (length es) ks ≡ es) × Runs plain (length es) m ks × AllIn lo hi ks

  zero_recalls : (l : Option Command) (output : ℤ) (es : List Entry) (older : List (Kept plain)) → holds_ok false lo hi l output ≡ true →
      entries_ok 0 lo hi es ≡ true → Recalls 0 (record { command = l; output = output } ∷ es) (recalled_by l output 0 older)
  unfolding places
  zero_recalls None output es older h f = (blank_at None output es h (all_blank es f), refl, refl)
  zero_recalls (Some c) output es older h f = never h

  suc_recalls : (m : ℕ) (l : Option Command) (output : ℤ) (es : List Entry) (older : List (Kept plain)) → holds_ok true lo hi l output ≡ true →
      Recalls m es older → Recalls (suc m) (record { command = l; output = output } ∷ es) (recalled_by l output (suc m) older)
  unfolding places
  suc_recalls m None output es older h r = never h
  suc_recalls m (Some c) output es older h r = (ap (λ (xs : List Entry). entry_of c output ∷ xs) r.0, (refl, refl, r.1), (h, r.2))

  recalls : (m : ℕ) (es : List Entry) → entries_ok m lo hi es ≡ true → Recalls m es (recalled m es)
  unfolding places recalled
  recalls zero [] h = (refl, refl, refl)
  recalls (suc m) [] h = (refl, refl, refl)
  recalls zero (e ∷ es) h =
      let b = both (holds_ok false lo hi e.command e.output) (entries_ok 0 lo hi es) h in
      zero_recalls e.command e.output es (recalled 0 es) b.0 b.1
  recalls (suc m) (e ∷ es) h =
      let b = both (holds_ok (ltb 0 (suc m)) lo hi e.command e.output) (entries_ok (suc m - 1) lo hi es) h in
      let d : suc m - 1 ≡ m = omega arith in
      let u : holds_ok true lo hi e.command e.output ≡ true =
      subst (λ (t : Bool). holds_ok t lo hi e.command e.output ≡ true) (lt-ltb 0 (suc m) (omega arith)) b.0 in
      suc_recalls m e.command e.output es (recalled (suc m - 1) es) u
      (subst (λ (k : ℕ). Recalls m es (recalled k es)) (sym d) (recalls m es (subst (λ (k : ℕ). entries_ok k lo hi es ≡ true) d b.1)))

module _ (s : Numbered) (v : valid_of s ≡ true) where
  abbrev lo : ℤ
  lo = s.state.settings.lo

  abbrev hi : ℤ
  hi = s.state.settings.hi

  abbrev ks : List (Kept plain)
  ks = recalled s.memory.number s.memory.entries

  memory_ok_lem : memory_ok s ≡ true
  memory_ok_lem = (both (memory_ok s) (valid s.state) v).0

  long : length s.memory.entries ≡ window
  long = places_long lo hi s.memory memory_ok_lem

  facts : Recalls lo hi s.memory.number s.memory.entries ks
  facts = recalls lo hi s.memory.number s.memory.entries (places_ok_lem lo hi s.memory memory_ok_lem)

  pub standing_good : Good (standing s)
  standing_good = record { rules = (both (memory_ok s) (valid s.state) v).1; outputs = facts.2 }

  pub standing_runs : Runs plain window s.memory.number ks
  standing_runs = subst (λ (k : ℕ). Runs plain k s.memory.number ks) long facts.1

  pub stands : stands_at (standing s) ≡ s
  stands = ap (record_of s.state s.memory.number) (ap (λ (k : ℕ). places k ks) (sym long) ∙ facts.0)

  pub end_from : (ds : List (Sent plain)) → after handed_back s ds ≡ after_kept s (kept_on s ds)
  end_from ds =
      ap (λ (x : Numbered). after handed_back x ds) (sym stands)
      ∙ end_after (standing s) ds standing_good standing_runs
      ∙ ap (λ (x : Numbered). after_kept x (kept_on s ds)) stands

  pub answers_from : (ds : List (Sent plain)) →
      each handed_back answered s ds ≡ each (onward plain window) (answer_to plain window) (standing s) ds
  answers_from ds =
      ap (λ (x : Numbered). each handed_back answered x ds) (sym stands)
      ∙ all_answers plain window numbered (standing s) ds standing_good standing_runs

pub all_valid : (s : Numbered) (ds : List (Sent plain)) → valid_of s ≡ true → valid_of (after handed_back s ds) ≡ true
unfolding after
all_valid s [] v = v
all_valid s (d ∷ ds) v = all_valid (handed_back s d) ds (delivered_valid s d.number d.command v)

-- ---- what a walk keeps is accepted, so that the integral's run can be said of a list of deliveries

accepted_by : (w : Walk plain) (d : Sent plain) (ds : List (Sent plain)) →
    ((v : Walk plain) → accepted v.state (kept plain window v ds) ≡ true) → (b : Bool) → keeps plain window w d ≡ b →
    accepted w.state (kept plain window w (d ∷ ds)) ≡ true
unfolding kept accepted
accepted_by w d ds rest true e =
    rw e (and (both (eqb d.number (w.count + 1)) (eqb (refusal_of w.state d.command) 0) e).1 (rest (keeping plain window w d)))
accepted_by w d ds rest false e = rw e (rest w)

pub kept_accepted : (w : Walk plain) (ds : List (Sent plain)) → accepted w.state (kept plain window w ds) ≡ true
unfolding kept accepted
kept_accepted w [] = refl
kept_accepted w (d ∷ ds) = accepted_by w d ds (λ v. kept_accepted v ds) (keeps plain window w d) refl

pub delivered_shares : (s : Numbered) (ds : List (Sent plain)) → valid_of s ≡ true → unbroken s.state (kept_on s ds) ≡ true →
    (after handed_back s ds).state.integral ≡ s.state.integral +ℤ shares s.state (kept_on s ds)
delivered_shares s ds v u =
    ap (λ (x : Numbered). x.state.integral) (end_from s v ds)
    ∙ run_shares s.state (kept_on s ds) (both (memory_ok s) (valid s.state) v).1 (kept_accepted (standing s) ds) u
