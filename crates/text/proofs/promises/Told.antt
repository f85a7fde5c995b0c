-- What is told of a reading, by the paper's numbers, leaves nothing of it out.
use Prim.Native.Nat.{ℕ}
use mathlib.Core.Path.{◌≡◌, ap, ap₂, ◌∙◌}
use Rattle.std.proofs.Common.{Result}
use Rattle.std.specs.Bool.{⊤}
use Rattle.refusal.specs.declared.Refusal.{Refusal}
use Rattle.refusal.proofs.promises.Codes.{code_in_once}
use Rattle.settings.specs.declared.Settings.{Settings}
use Rattle.text.specs.declared.reader.Reading.{Reading as Outcome}
use Rattle.text.specs.Reader.{Reading, reading_told}

pub reading_once : (a b : Outcome) → reading_told a ≡ reading_told b → a ≡ b
reading_once a b e =
    ap₂ (λ (o : Result ⊤ Refusal) (n : ℕ). record { outcome = o; line = n; settings = a.settings })
    (code_in_once a.outcome b.outcome (ap (λ (r : Reading). r.code) e))
    (ap (λ (r : Reading). r.line) e)
    ∙ ap (λ (s : Settings). record { outcome = b.outcome; line = b.line; settings = s }) (ap (λ (r : Reading). r.settings) e)
