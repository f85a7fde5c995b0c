use Prim.Native.Nat.{ℕ}
use mathlib.Core.Path.{◌≡◌, sym, ap, ap₂, ◌∙◌}
use borrow.Author.Rules.{rules}
use mir.Syntax.{w32}
use mir.Val.{SFits}
use mir.Facts.{to_z-of_z}
use Rattle.refusal.specs.Refusal.{code_in}
use Rattle.refusal.proofs.promises.Codes.{refused_not_0}
use Rattle.memory.specs.declared.Memory.{Memory}
use Rattle.memory.specs.Memory.{remembered}
use Rattle.record.specs.declared.Loop.{Loop}
use Rattle.pid.specs.Law.{Obeyed, obeyed_told}
use Rattle.pid.proofs.promises.Demand1.{refused_back}
use Rattle.delivery.specs.Numbered.{refused_as}
use Rattle.delivery.proofs.Served.{tried_kept, tried_refused}
use Rattle.delivery.proofs.numbered.Numbered.attempt.Goals as goal
use Rattle.delivery.proofs.numbered.Numbered.attempt.Goals.{in-Ok, in-Err}

pub returns : goal.returns
returns c =
    let s = c.args.self in
    let o = c.obey-outcome in
    let t = obeyed_told o.result in
    c.answer.ensures
    ∙ elim c.match-outcome.branch [
      | in-Ok w ↦
          let z : t.code ≡ 0 = ap code_in w.in-Ok.is in
          let u : SFits w32 t.state.u = search rules in
          ap₂ (λ (k : ℕ) (m : Memory). refused_as k (record { state = t.state; memory = m })) z (w.memory-is ∙ w.remember-memory.ensures ∙ ap (remembered s.memory c.args.number c.args.c) (to_z-of_z u))
          ∙ tried_kept s c.args.number c.args.c t o.ensures z
      | in-Err w ↦
          let h : (t.code ≡ 0 → ⊥) = λ q. refused_not_0 _ (sym (ap code_in w.in-Err.is) ∙ q) in
          let b = refused_back s.state c.args.c (λ q. h (ap (λ (o : Obeyed). o.code) o.ensures ∙ q)) in
          ap₂ (λ (l : Loop) (m : Memory). refused_as t.code (record { state = l; memory = m })) (ap (λ (o : Obeyed). o.state) o.ensures ∙ b) w.memory-is
          ∙ tried_refused s c.args.number c.args.c t o.ensures h
    ]
