use mathlib.Core.Path.{◌≡◌, refl, ap, ◌∙◌}
use mathlib.Core.List.{List, ◌∷◌}
use native.Mathlib.Omega.{arith}
use lib.ListN.{take}
use mir.Facts.{to_z-of_z}
use Rattle.whole.proofs.Lists.{front_all}
use Rattle.memory.specs.declared.Entry.{Entry}
use Rattle.memory.specs.Memory.{window, remembered}
use Rattle.memory.proofs.Fit.{memory_long}
use Rattle.memory.proofs.Memory.remember.Goals as goal

pub loop-i-init : goal.loop-i-init
unfolding window
loop-i-init c = (omega arith, omega arith, memory_long c.args.self c.well_formed.0, refl, refl)

pub returns : goal.returns
unfolding window remembered
returns c =
    let i : c.loop-i.i ≡ window = omega (arith, c.loop-i-test.false, c.loop-i.invariant.1) in
    ap (λ (es : List Entry). record { number = c.args.number; entries = es })
    (front_all _ c.loop-i.entries c.loop-i.i window i c.loop-i.invariant.3 c.loop-i.invariant.4
    ∙ ap (λ (e : Entry). take window (e ∷ c.args.self.entries)) (c.of-entries.ensures ∙ rw (to_z-of_z c.ranges.output)))
