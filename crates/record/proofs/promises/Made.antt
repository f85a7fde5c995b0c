-- DEMAND 1, of a loop that is made. The state rules of one that is moved on are the law's.
use mathlib.Core.Path.{◌≡◌, refl, ap, ap₂}
use mathlib.Core.Bool.{true, false, cond}
use borrow.Author.Tests.{eqb-true, eqb-false}
use lib.Dec.{eqb}
use Rattle.whole.proofs.Truth.{chosen, zero_if, zero_then}
use Rattle.settings.specs.declared.Settings.{Settings}
use Rattle.settings.specs.Table.{rows_of}
use Rattle.settings.specs.Settings.{blank_settings, settings_refusal, in_table, ordered}
use Rattle.std.proofs.Common.{Result}
use Rattle.std.specs.Bool.{⊤}
use Rattle.refusal.specs.declared.Refusal.{Refusal}
use Rattle.refusal.proofs.promises.Codes.{code_in_once}
use Rattle.record.specs.declared.After.{After}
use Rattle.record.specs.declared.Loop.{Loop}
use Rattle.record.specs.Record.{Made, fresh_of, blank_loop, made_told, made_of, valid}
use Rattle.record.proofs.Rules.{valid_of_holds}
use Rattle.record.proofs.Kept.{fresh_holds}

-- "Every loop the software makes keeps them"
pub made_valid : (s : Settings) → (made_of s).code ≡ 0 → valid (made_of s).state ≡ true
unfolding made_of
made_valid s =
    chosen (λ (m : Made). m.code ≡ 0 → valid m.state ≡ true) (eqb (settings_refusal s) 0)
    (λ e _. fresh (eqb-true (settings_refusal s) 0 e)) (λ e z. absurd (eqb-false (settings_refusal s) 0 e z))
  where
    fresh : settings_refusal s ≡ 0 → valid (fresh_of s) ≡ true
    fresh z =
        let t = zero_if (in_table s) (cond (ordered s) 0 16) 10 z in
        valid_of_holds (fresh_of s) (fresh_holds s t.0 (zero_then (ordered s) 15 t.1))

-- "The blank breaks the state rules (lo is not below hi)."
pub blank_broken : valid blank_loop ≡ false
unfolding valid blank_loop blank_settings in_table rows_of
blank_broken = refl

-- What a making tells leaves nothing of it out.
pub made_once : (a b : After Loop) → made_told a ≡ made_told b → a ≡ b
made_once a b e =
    ap₂ (λ (o : Result ⊤ Refusal) (l : Loop). record { outcome = o; state = l })
    (code_in_once a.outcome b.outcome (ap (λ (m : Made). m.code) e))
    (ap (λ (m : Made). m.state) e)
