-- What is told of a writing, by the paper's numbers, leaves nothing of the result out.
use Prim.Native.Nat.{ℕ}
use mathlib.Core.Path.{◌≡◌, sym, ap}
use Rattle.std.proofs.Common.{Result, Ok, Err}
use Rattle.refusal.specs.declared.Refusal.{Refusal}
use Rattle.refusal.proofs.promises.Codes.{code_for_once, refused_not_0}
use Rattle.writer.specs.Writer.{Written, written_told}

pub written_once : (a b : Result ℕ Refusal) → written_told a ≡ written_told b → a ≡ b
written_once (Ok n) (Ok m) e = ap (λ (w : Written). Ok w.len) e
written_once (Ok n) (Err r) e = absurd (refused_not_0 r (sym (ap (λ (w : Written). w.code) e)))
written_once (Err q) (Ok m) e = absurd (refused_not_0 q (ap (λ (w : Written). w.code) e))
written_once (Err q) (Err r) e = ap Err (code_for_once q r (ap (λ (w : Written). w.code) e))
