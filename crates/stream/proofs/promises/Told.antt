-- What a run tells leaves nothing of it out.
use Prim.Native.Nat.{ℕ}
use mathlib.Core.Path.{◌≡◌, sym, ap, ap₂}
use Rattle.std.proofs.Common.{Result, Ok, Err}
use Rattle.whole.proofs.Truth.{never}
use Rattle.stream.specs.declared.run.Run.{Run}
use Rattle.stream.specs.declared.run.Told.{Told}
use Rattle.stream.specs.Feed.{Ran, ran_told}

same : (t u : Told) → t.run ≡ u.run → t.len ≡ u.len → t ≡ u
same t u r n = ap₂ (λ (x : Run) (k : ℕ). record { run = x; len = k }) r n

pub ran_once : (a b : Result Told Run) → ran_told a ≡ ran_told b → a ≡ b
ran_once (Ok t) (Ok u) e = ap Ok (same t u (ap (λ (r : Ran). r.run) e) (ap (λ (r : Ran). r.len) e))
ran_once (Ok t) (Err r) e = never (sym (ap (λ (r : Ran). r.done) e))
ran_once (Err r) (Ok u) e = never (ap (λ (r : Ran). r.done) e)
ran_once (Err r) (Err q) e = ap Err (ap (λ (r : Ran). r.run) e)
