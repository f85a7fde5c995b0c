-- What owning tells: an entry's output fits its type, and a memory has as many places as the request says. Each takes a parameter's
-- `c.well_formed.i`.
use mathlib.Core.Path.{◌≡◌}
use mathlib.Core.List.{[], ◌∷◌}
use lib.ListN.{length}
use mir.Syntax.{w32}
use mir.Val.{SFits}
use denote.Laws.{Is}
use denote.Struct.Laws.{val, owed}
use Rattle.memory.specs.declared.Entry.{Entry}
use Rattle.memory.specs.declared.Memory.{Memory}
use Rattle.memory.specs.Memory.{window}
use Rattle.memory.specs.contracts.Entry as E
use Rattle.memory.proofs.Entry.TheLaws as E'
use Rattle.memory.specs.contracts.Memory as M
use Rattle.memory.proofs.Memory.TheLaws as M'

pub entry_fit : (e : Entry) → Is E.the_row e (val E.the_type E'.the_laws e ∷ []) → SFits w32 e.output
entry_fit e is = record { sfits = (owed E.the_type E'.the_laws e _ is).1.0.1 }

pub memory_long : (m : Memory) → Is M.the_row m (val M.the_type M'.the_laws m ∷ []) → length m.entries ≡ window
unfolding window
memory_long m is =
    let g = owed M.the_type M'.the_laws m _ is in
    g.1.0.1.0.1
