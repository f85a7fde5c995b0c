-- 01, "The law, one command at a time": the commands but a sample. None of them moves w, the integral or the filter.
use Rattle.std.specs.Prelude.{ℕ, Bool, true, false, cond, ◌||◌, eqb, ℤ}
use Rattle.record.specs.declared.Loop.{Loop}

-- ---- the groups of fields that they change, each written out once

abbrev pub with_mode : Loop → Bool → Bool → ℕ → Loop
with_mode l automatic pending set = record {
  settings = l.settings;
  automatic = automatic;
  pending = pending;
  set = set;
  w = l.w;
  target = l.target;
  rate = l.rate;
  u = l.u;
  integral = l.integral;
  primed = l.primed;
  y = l.y;
  window = l.window;
  raw = l.raw;
}

abbrev pub with_target : Loop → ℤ → ℤ → ℤ → Loop
with_target l target rate u = record {
  settings = l.settings;
  automatic = l.automatic;
  pending = l.pending;
  set = l.set;
  w = l.w;
  target = target;
  rate = rate;
  u = u;
  integral = l.integral;
  primed = l.primed;
  y = l.y;
  window = l.window;
  raw = l.raw;
}

-- ---- the commands

-- "Hold. Manual, not pending; u stays."
abbrev pub hold_of : Loop → Loop
hold_of l = with_mode l false false l.set

-- "Put x. Manual only: u = x."
abbrev pub put_of : Loop → ℤ → Loop
put_of l x = with_target l l.target l.rate x

-- "Automatic. From manual: automatic, pending. Already automatic: no effect."
abbrev pub automatic_of : Loop → Loop
automatic_of l = cond l.automatic l (with_mode l true true l.set)

-- "Target t, rate r. Both are taken; w stays until the next sample."
abbrev pub target_of : Loop → ℤ → ℤ → Loop
target_of l t r = with_target l t r l.u

-- "Set k. The set in force: no effect. Another: it comes into force, and in automatic the loop becomes pending. I and y stay."
abbrev pub set_of : Loop → ℕ → Loop
set_of l k = cond (eqb l.set k) l (with_mode l l.automatic (l.pending || l.automatic) k)
