-- A loop is quiet where its next sample leaves u: in manual, and while a transfer is pending.
use mathlib.Core.Path.{◌≡◌, refl, ◌∙◌}
use mathlib.Core.Bool.{Bool, true, false, not, cond, ◌||◌}
use mathlib.Core.List.{List, [], ◌∷◌}
use borrow.Author.Tests.{not-true}
use lib.Dec.{eqb}
use lib.IntN.{ℤ}
use Rattle.whole.specs.Numbers.{plus}
use Rattle.whole.proofs.Truth.{never, chosen}
use Rattle.command.specs.declared.Command.{Command}
use Rattle.command.specs.declared.Command.TheVariants.{Sample, Hold, Put, Automatic, Target, Set}
use Rattle.record.specs.declared.Loop.{Loop}
use Rattle.pid.specs.Sample.{acted_of}
use Rattle.pid.specs.Law.{sample_of, step_of}
use Rattle.command.specs.Sequence.{after}
use Rattle.pid.specs.Run.{obeyed, switches, between}

unfoldable pub quiet : Loop → Bool
quiet l = not l.automatic || l.pending

choice : (a p : Bool) (u v : ℤ) → (not a || p) ≡ true → cond a (cond p u v) u ≡ u
choice true true u v e = refl
choice true false u v e = never e
choice false p u v e = refl

pub quiet_still : (l : Loop) (pv : ℤ) → quiet l ≡ true → (step_of l (Sample pv)).u ≡ l.u
unfolding quiet step_of sample_of acted_of
quiet_still l pv q = choice l.automatic l.pending l.u _ q

-- what is neither put nor sample leaves u
set_still : (l : Loop) (k : ℤ) → (step_of l (Set k)).u ≡ l.u
unfolding step_of
set_still l k = chosen (λ (x : Loop). x.u ≡ l.u) (eqb l.set (plus k)) (λ _. refl) (λ _. refl)

automatic_still : (l : Loop) → (step_of l Automatic).u ≡ l.u
unfolding step_of
automatic_still l = chosen (λ (x : Loop). x.u ≡ l.u) l.automatic (λ _. refl) (λ _. refl)

pub switch_still : (l : Loop) (c : Command) → switches l c ≡ true → (step_of l c).u ≡ l.u
unfolding switches step_of
switch_still l (Sample pv) e = never e
switch_still l Hold e = refl
switch_still l (Put x) e = never e
switch_still l Automatic e = automatic_still l
switch_still l (Target t r) e = never e
switch_still l (Set k) e = set_still l k

pub between_still : (l : Loop) (cs : List Command) → between cs ≡ true → (obeyed l cs).u ≡ l.u
unfolding between after step_of
between_still l [] e = refl
between_still l (Sample pv ∷ cs) e = never e
between_still l (Hold ∷ cs) e = between_still (step_of l Hold) cs e
between_still l (Put x ∷ cs) e = never e
between_still l (Automatic ∷ cs) e = between_still (step_of l Automatic) cs e ∙ automatic_still l
between_still l (Target t r ∷ cs) e = between_still (step_of l (Target t r)) cs e
between_still l (Set k ∷ cs) e = between_still (step_of l (Set k)) cs e ∙ set_still l k

-- ---- and the loop is quiet, and stays so

pending_quiet : (a p : Bool) → (not a || (p || a)) ≡ true
pending_quiet true true = refl
pending_quiet true false = refl
pending_quiet false p = refl

set_quiet : (l : Loop) (k : ℤ) → quiet l ≡ true → quiet (step_of l (Set k)) ≡ true
unfolding quiet step_of
set_quiet l k q = chosen (λ (x : Loop). quiet x ≡ true) (eqb l.set (plus k)) (λ _. q) (λ _. pending_quiet l.automatic l.pending)

automatic_quiet : (l : Loop) → quiet l ≡ true → quiet (step_of l Automatic) ≡ true
unfolding quiet step_of
automatic_quiet l q = chosen (λ (x : Loop). quiet x ≡ true) l.automatic (λ _. q) (λ _. refl)

pub switch_quiet : (l : Loop) (c : Command) → switches l c ≡ true → quiet (step_of l c) ≡ true
unfolding quiet switches step_of
switch_quiet l (Sample pv) e = never e
switch_quiet l Hold e = refl
switch_quiet l (Put x) e = never e
switch_quiet l Automatic e = rw (not-true l.automatic e)
switch_quiet l (Target t r) e = never e
switch_quiet l (Set k) e = rw (not-true (eqb l.set (plus k)) e) (pending_quiet l.automatic l.pending)

pub between_quiet : (l : Loop) (cs : List Command) → quiet l ≡ true → between cs ≡ true → quiet (obeyed l cs) ≡ true
unfolding quiet between after step_of
between_quiet l [] q e = q
between_quiet l (Sample pv ∷ cs) q e = never e
between_quiet l (Hold ∷ cs) q e = between_quiet (step_of l Hold) cs refl e
between_quiet l (Put x ∷ cs) q e = never e
between_quiet l (Automatic ∷ cs) q e = between_quiet (step_of l Automatic) cs (automatic_quiet l q) e
between_quiet l (Target t r ∷ cs) q e = between_quiet (step_of l (Target t r)) cs q e
between_quiet l (Set k ∷ cs) q e = between_quiet (step_of l (Set k)) cs (set_quiet l k q) e
