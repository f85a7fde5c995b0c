-- What a step's function ensures, said of another name of the step.
use Prim.Native.Nat.{ℕ, ◌≤◌}
use mathlib.Core.Path.{◌≡◌, refl, ap, ap₂}
use mathlib.Core.List.{List, []}
use native.Mathlib.Omega.{arith}
use lib.ListN.{length}
use lib.Seq.{sets}
use Rattle.stream.specs.declared.run.Run.{Run}
use Rattle.stream.specs.declared.run.Told.{Told}
use Rattle.stream.specs.Run.{Step, Tells}

pub step_by : {s t : Step} {room : ℕ} {l₀ l : List ℕ} {r : Told} → t ≡ s → Tells room s l₀ r l → Tells room t l₀ r l
step_by e p = rw e p

-- a step that leaves a run and puts a text
pub step_made : {room : ℕ} {l₀ l : List ℕ} {r : Told} (s : Step) → r.run ≡ s.run → r.len ≡ length s.text → l ≡ sets l₀ 0 s.text → r.len ≤ room →
    Tells room s l₀ r l
step_made {room} {l₀} {l} {r} s e n h f = record {
  is = ap₂ (λ (u : Run) (k : ℕ). record { run = u; len = k }) e n;
  holds = h;
  few = f;
}

-- a step that puts nothing
pub step_quiet : {room : ℕ} {l : List ℕ} {u v : Run} → u ≡ v → Tells room (record { run = v; text = [] }) l (record { run = u; len = 0 }) l
step_quiet e = record { is = ap (λ (u : Run). record { run = u; len = 0 }) e; holds = refl; few = omega arith }
