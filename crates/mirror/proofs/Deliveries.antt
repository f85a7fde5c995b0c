-- Mirrored deliveries, one and a list of them.
use Prim.Native.Nat.{ℕ, ◌+◌, ◌-◌}
use mathlib.Core.Path.{◌≡◌, refl, sym, ap, subst, ◌∙◌}
use mathlib.Core.Bool.{Bool, true, ◌||◌}
use mathlib.Core.List.{List, [], ◌∷◌, map}
use lib.Dec.{eqb, ltb, leb}
use lib.IntN.{ℤ, pos, neg_ℤ}
use lib.ListN.{length-map, get_or-map}
use Rattle.whole.proofs.Truth.{never, both, by_test, push}
use Rattle.whole.proofs.Lists.{map_take}
use Rattle.whole.proofs.Negated.{eq_z_neg, inside_neg}
use Rattle.command.specs.declared.Command.{Command}
use Rattle.command.specs.Command.{same}
use Rattle.command.specs.Sequence.{after, each}
use Rattle.command.proofs.Same.{same_equal, same_self}
use Rattle.command.proofs.Sequences.{after_through, each_through}
use Rattle.record.specs.Record.{valid}
use Rattle.record.specs.Refusals.{refusal_of}
use Rattle.record.proofs.Rules.{Holds, holds_of}
use Rattle.pid.specs.Law.{step_of}
use Rattle.std.specs.declared.option.Option.{Option}
use Rattle.std.specs.declared.option.Option.TheVariants.{None, Some}
use Rattle.memory.specs.declared.Found.{Found}
use Rattle.memory.specs.declared.Found.TheVariants.{Old, Reused, Repeated, Ahead, Next}
use Rattle.memory.specs.declared.Entry.{Entry}
use Rattle.memory.specs.declared.Memory.{Memory}
use Rattle.memory.specs.Memory.{window, entry_of, no_entry, remembered, holds_ok, entries_ok, memory_ok as memory_rules, is_last, found_in, found_by, entry_at, found_of}
use Rattle.memory.specs.Walk.{Delivery}
use Rattle.delivery.specs.declared.numbered.Numbered.{Numbered}
use Rattle.delivery.specs.Numbered.{Delivered, memory_ok, valid_of, served_of, delivered_of}
use Rattle.delivery.specs.Demand3.{answer_in, answered, handed_back}
use Rattle.mirror.specs.Mirror.{Mirror, flip_command, flip_last, flip_entry, flip_memory, flip_numbered, flip_delivery, flip_answer, flip_delivered}
use Rattle.mirror.proofs.Twice.{command_twice}
use Rattle.mirror.proofs.Loops.{valid_mirror, refusal_mirror, step_mirror}

-- ---- the same command

same_there : (k : Mirror) (a b : Command) → same a b ≡ true → same (flip_command k a) (flip_command k b) ≡ true
same_there k a b e =
    subst (λ (c : Command). same (flip_command k a) (flip_command k c) ≡ true) (same_equal a b e) (same_self (flip_command k a))

-- two commands are the same exactly where their mirror images are
same_mirror : (k : Mirror) (a b : Command) → same (flip_command k a) (flip_command k b) ≡ same a b
same_mirror k a b =
    by_test (same a b)
    (λ e. same_there k a b e ∙ sym e)
    (λ e. by_test (same (flip_command k a) (flip_command k b))
    (λ d. never (sym e ∙ (rw (command_twice k a, command_twice k b) at (same_there k (flip_command k a) (flip_command k b) d))))
    (λ d. d ∙ sym e))

-- ---- one delivery

is_last_mirror : (k : Mirror) (m : Option Command) (c : Command) → is_last (flip_last k m) (flip_command k c) ≡ is_last m c
unfolding is_last
is_last_mirror k None c = refl
is_last_mirror k (Some d) c = same_mirror k d c

-- what is found, with the entry that is its mirror image
abbrev flip_found : Mirror → Found → Found
flip_found k Old = Old
flip_found k Reused = Reused
flip_found k (Repeated e) = Repeated (flip_entry k e)
flip_found k Ahead = Ahead
flip_found k Next = Next

in_mirror : (k : Mirror) (e : Entry) (c : Command) → found_in (flip_entry k e) (flip_command k c) ≡ flip_found k (found_in e c)
unfolding found_in
in_mirror k e c = rw (is_last_mirror k e.command c) (push (flip_found k) (is_last e.command c) (Repeated e) Reused)

by_mirror : (k : Mirror) (n last : ℕ) (f : Found) → found_by n last (flip_found k f) ≡ flip_found k (found_by n last f)
unfolding found_by
by_mirror k n last f =
    by_test (eqb n 0 || leb (n + window) last)
    (λ e. rw e)
    (λ e. rw e (by_test (leb n last) (λ d. rw d) (λ d. rw d (push (flip_found k) (ltb (last + 1) n) Ahead Next))))

found_mirror : (k : Mirror) (m : Memory) (n : ℕ) (c : Command) → found_of (flip_memory k m) n (flip_command k c) ≡ flip_found k (found_of m n c)
found_mirror k m n c =
    ap (found_by n m.number)
    (ap (λ (e : Entry). found_in e (flip_command k c)) (get_or-map (flip_entry k) m.entries (m.number - n) no_entry) ∙ in_mirror k (entry_at m n) c)
    ∙ by_mirror k n m.number (found_in (entry_at m n) c)

holds_mirror : (k : Mirror) (used : Bool) (lo hi : ℤ) (m : Option Command) (u : ℤ) → holds_ok used (neg_ℤ hi) (neg_ℤ lo) (flip_last k m) (neg_ℤ u) ≡ holds_ok used lo hi m u
holds_mirror k used lo hi None u = rw (eq_z_neg u (pos 0))
holds_mirror k used lo hi (Some c) u = rw (inside_neg lo hi u)

entries_mirror : (k : Mirror) (n : ℕ) (lo hi : ℤ) (es : List Entry) → entries_ok n (neg_ℤ hi) (neg_ℤ lo) (map (flip_entry k) es) ≡ entries_ok n lo hi es
entries_mirror k n lo hi [] = refl
entries_mirror k n lo hi (e ∷ es) = rw (holds_mirror k (ltb 0 n) lo hi e.command e.output, entries_mirror k (n - 1) lo hi es)

memory_mirror : (k : Mirror) (lo hi : ℤ) (m : Memory) → memory_rules (neg_ℤ hi) (neg_ℤ lo) (flip_memory k m) ≡ memory_rules lo hi m
unfolding memory_rules
memory_mirror k lo hi m = rw (length-map m.entries (flip_entry k), entries_mirror k m.number lo hi m.entries)

pub valid_of_mirror : (k : Mirror) (s : Numbered) → valid_of (flip_numbered k s) ≡ valid_of s
valid_of_mirror k s = rw (memory_mirror k s.state.settings.lo s.state.settings.hi s.memory, valid_mirror k s.state)

remembered_mirror : (k : Mirror) (m : Memory) (n : ℕ) (c : Command) (u : ℤ) →
    remembered (flip_memory k m) n (flip_command k c) (neg_ℤ u) ≡ flip_memory k (remembered m n c u)
unfolding remembered
remembered_mirror k m n c u = rw (map_take (flip_entry k) window (entry_of c u ∷ m.entries))

served_mirror : (k : Mirror) (s : Numbered) (n : ℕ) (c : Command) → Holds s.state → (f : Found) →
    served_of (flip_numbered k s) n (flip_command k c) (flip_found k f) ≡ flip_delivered k (served_of s n c f)
unfolding served_of
served_mirror k s n c h Old = refl
served_mirror k s n c h Reused = refl
served_mirror k s n c h (Repeated e) = refl
served_mirror k s n c h Ahead = refl
served_mirror k s n c h Next =
    rw (refusal_mirror k s.state c, step_mirror k s.state h c, remembered_mirror k s.memory n c (step_of s.state c).u) (push (flip_delivered k) (eqb (refusal_of s.state c) 0) _ _)

-- from any record, also one that breaks the state rules
pub delivered_mirror : (k : Mirror) (s : Numbered) (n : ℕ) (c : Command) →
    delivered_of (flip_numbered k s) n (flip_command k c) ≡ flip_delivered k (delivered_of s n c)
unfolding delivered_of
delivered_mirror k s n c =
    rw (valid_of_mirror k s, found_mirror k s.memory n c)
    (by_test (valid_of s)
    (λ e. rw e (served_mirror k s n c (holds_of s.state (both (memory_ok s) (valid s.state) e).1) (found_of s.memory n c)))
    (λ e. rw e))

-- ---- a list of deliveries

module _ (k : Mirror) where
  back_mirror : (s : Numbered) (d : Delivery Command) → handed_back (flip_numbered k s) (flip_delivery k d) ≡ flip_numbered k (handed_back s d)
  back_mirror s d = ap (λ (r : Delivered). r.state) (delivered_mirror k s d.number d.command)

  answer_mirror : (s : Numbered) (d : Delivery Command) → answered (flip_numbered k s) (flip_delivery k d) ≡ flip_answer (answered s d)
  answer_mirror s d = ap answer_in (delivered_mirror k s d.number d.command)

  pub after_mirror : (s : Numbered) (ds : List (Delivery Command)) →
      after handed_back (flip_numbered k s) (map (flip_delivery k) ds) ≡ flip_numbered k (after handed_back s ds)
  after_mirror s ds = after_through (flip_numbered k) (flip_delivery k) handed_back handed_back back_mirror s ds

  pub answers_mirror : (s : Numbered) (ds : List (Delivery Command)) →
      each handed_back answered (flip_numbered k s) (map (flip_delivery k) ds) ≡ map flip_answer (each handed_back answered s ds)
  answers_mirror s ds = each_through (flip_numbered k) (flip_delivery k) handed_back handed_back back_mirror flip_answer answered answered answer_mirror s ds
