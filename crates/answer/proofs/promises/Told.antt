-- What is told of a line leaves nothing of the result out.
use Prim.Native.Nat.{ℕ}
use mathlib.Core.Path.{◌≡◌, sym, ap, ap₂}
use Rattle.std.proofs.Common.{Result, Ok, Err}
use Rattle.refusal.specs.declared.Refusal.{Refusal}
use Rattle.refusal.proofs.promises.Codes.{code_for_once, refused_not_0}
use Rattle.delivery.specs.declared.numbered.Numbered.{Numbered}
use Rattle.answer.specs.declared.verdict.Answered.{Answered}
use Rattle.answer.specs.Verdict.{Judged, judged_told}

pub judged_once : (l : Numbered) (a b : Result Answered Refusal) → judged_told l a ≡ judged_told l b → a ≡ b
judged_once l (Ok a) (Ok b) e =
    ap₂ (λ (s : Numbered) (n : ℕ). Ok (record { state = s; len = n })) (ap (λ (j : Judged). j.state) e) (ap (λ (j : Judged). j.len) e)
judged_once l (Ok a) (Err r) e = absurd (refused_not_0 r (sym (ap (λ (j : Judged). j.code) e)))
judged_once l (Err q) (Ok b) e = absurd (refused_not_0 q (ap (λ (j : Judged). j.code) e))
judged_once l (Err q) (Err r) e = ap Err (code_for_once q r (ap (λ (j : Judged). j.code) e))
