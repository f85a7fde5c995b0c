-- A mirror image has the first thing for its own image.
use mathlib.Core.Path.{◌≡◌, refl}
use native.Mathlib.Omega.{arith}
use lib.IntN.{ℤ, pos, ◌-ℤ◌, neg_ℤ-neg_ℤ}
use Rattle.whole.proofs.Parts.{zs}
use Rattle.whole.proofs.Lists.{map_twice}
use Rattle.whole.proofs.Lin.{Lin, at, lins}
use Rattle.command.specs.declared.Command.{Command}
use Rattle.command.specs.declared.Command.TheVariants.{Sample, Hold, Put, Automatic, Target, Set}
use Rattle.record.specs.declared.Loop.{Loop}
use Rattle.std.specs.declared.option.Option.{Option}
use Rattle.std.specs.declared.option.Option.TheVariants.{None, Some}
use Rattle.memory.specs.declared.Entry.{Entry}
use Rattle.delivery.specs.declared.numbered.Numbered.{Numbered}
use Rattle.mirror.specs.Mirror.{Mirror, of_action, of_temperatures, flip_temperature, flip_action, flip_command, flip_loop, flip_last, flip_entry, flip_numbered}
use Rattle.mirror.proofs.Windows.{window_twice}

temperature_twice : (k : Mirror) (z : ℤ) → flip_temperature k (flip_temperature k z) ≡ z
temperature_twice of_action z = refl
temperature_twice of_temperatures z = neg_ℤ-neg_ℤ z

action_twice : (k : Mirror) (a : ℤ) → flip_action k (flip_action k a) ≡ a
action_twice of_action a =
    let A = at a in
    let L : Lin (pos 1 -ℤ (pos 1 -ℤ a)) = search lins in
    omega (arith, zs)
action_twice of_temperatures a = refl

-- `simp twices` takes away every sign that is flipped twice
ruleset twices = (temperature_twice, action_twice, window_twice, neg_ℤ-neg_ℤ)

pub command_twice : (k : Mirror) (c : Command) → flip_command k (flip_command k c) ≡ c
command_twice k (Sample pv) = cc (temperature_twice k pv)
command_twice k Hold = refl
command_twice k (Put x) = cc (neg_ℤ-neg_ℤ x)
command_twice k Automatic = refl
command_twice k (Target t r) = cc (temperature_twice k t)
command_twice k (Set n) = refl

last_twice : (k : Mirror) (m : Option Command) → flip_last k (flip_last k m) ≡ m
last_twice k None = refl
last_twice k (Some c) = cc (command_twice k c)

loop_twice : (k : Mirror) (l : Loop) → flip_loop k (flip_loop k l) ≡ l
loop_twice k l = simp twices

entry_twice : (k : Mirror) (e : Entry) → flip_entry k (flip_entry k e) ≡ e
entry_twice k e = rw (last_twice k e.command, neg_ℤ-neg_ℤ e.output)

pub numbered_twice : (k : Mirror) (s : Numbered) → flip_numbered k (flip_numbered k s) ≡ s
numbered_twice k s = rw (loop_twice k s.state, map_twice (flip_entry k) (entry_twice k) s.memory.entries)
