use Prim.Native.Nat.{ℕ, ◌-◌}
use mathlib.Core.Path.{◌≡◌, ap, ◌∙◌}
use borrow.Author.Tests.{eq-eqb}
use lib.Dec.{ltb}
use lib.ListN.{length}
use mir.Facts.{to_z-of_z}
use Rattle.std.proofs.Common.{arith, rules, tests}
use Rattle.std.proofs.lemmas.Iterator.{YieldsList-from_slice}
use Rattle.std.proofs.lemmas.Iterator.Consumers.{YieldsList-from_enumerate}
use Rattle.std.proofs.lemmas.Iterator.Search.{all_from_yields_List}
use Rattle.memory.specs.declared.Entry.{Entry}
use Rattle.memory.specs.Memory.{window, entry_ok, entries_ok, memory_ok}
use Rattle.memory.proofs.Rules.{all_ok}
use Rattle.memory.proofs.Fit.{memory_long}
use Rattle.memory.proofs.Memory.fits.Goals as goal

pub returns : goal.returns
unfolding memory_ok
returns c =
    let m = c.args.self in
    let z : m.number - 0 ≡ m.number = omega arith in
    all_from_yields_List (λ (p : ℕ × Entry). entry_ok (ltb p.0 m.number) c.args.lo c.args.hi p.1) _ _ c.all.result c.all.ensures.ran
    (YieldsList-from_enumerate (YieldsList-from_slice m.entries cc) cc) (λ x b q k. rw (← to_z-of_z c.ranges.lo, ← to_z-of_z c.ranges.hi) (search (rules, tests)))
    ∙ all_ok m.number c.args.lo c.args.hi m.entries 0
    ∙ ap (λ (k : ℕ). entries_ok k c.args.lo c.args.hi m.entries) z
    ∙ rw (eq-eqb (length m.entries) window (memory_long m c.well_formed.0))
