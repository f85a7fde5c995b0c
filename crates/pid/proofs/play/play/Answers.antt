use Prim.Native.Nat.{ℕ, ◌≤◌}
use mathlib.Core.Path.{◌≡◌, sym, ap, ap₂, ◌∙◌}
use mathlib.Core.Bool.{true}
use native.Mathlib.Omega.{arith}
use mathlib.Core.List.{List}
use lib.IntN.{ℤ}
use lib.ListN.{length, take}
use Rattle.whole.specs.Numbers.{plus}
use Rattle.whole.proofs.Truth.{so}
use Rattle.refusal.specs.Refusal.{code_for}
use Rattle.refusal.proofs.promises.Codes.{refused_not_0}
use Rattle.temperature.specs.Temperature.{Bad, bad_of, first_bad, first_code}
use Rattle.window.specs.Means.{front_filled, means_into}
use Rattle.window.proofs.Taken.{into_bad, into_front, front_take, front_long, front_twice}
use Rattle.record.specs.declared.Loop.{Loop}
use Rattle.record.specs.Record.{guard_of, valid}
use Rattle.pid.specs.Play.{outputs_of, reads_of, refused_of, placed}
use Rattle.pid.proofs.Plays.{code_10, code_12, code_bad, bad_placed, plays_refused, plays_done, reads_length, outputs_length}
use Rattle.pid.proofs.play.play.Goals as goal
use Rattle.pid.proofs.play.play.Goals.{After-means, In-Err, In_default}

-- what is known once the samples are looked at: the kept_rules hold, there is room, the earliest bad one, and what the list then holds
kept_rules : (c : After-means) → valid c.args.l ≡ true
kept_rules c =
    let v = c.is_valid in
    so v.ensures c.if-not-is_valid.false

room : (c : After-means) → length c.args.samples.now ≤ length c.args.out.now
room c = c.if-out-samples.false

list_is : (c : After-means) →
    c.means.new.out ≡ means_into (plus c.args.l.settings.mean) c.args.l.window (guard_of c.args.l) c.args.samples.now c.args.out.now
list_is c = rw (c.mean.ensures, c.guard.ensures) at c.means.ensures.out_after

-- the code of the earliest bad sample, and its place
code_is : (l : Loop) (pvs : List ℤ) {b : Bad} → b ≡ bad_of (guard_of l) pvs → b.code ≡ first_code (guard_of l) pvs
code_is l pvs = ap (λ (b : Bad). b.code)

place_is : (l : Loop) (pvs : List ℤ) {b : Bad} → b ≡ bad_of (guard_of l) pvs → (b.code ≡ 0 → ⊥) → b.place ≡ placed b.code (first_bad (guard_of l) pvs)
place_is l pvs e h =
    ap (λ (b : Bad). b.place) e
    ∙ sym (bad_placed (guard_of l) pvs (λ z. h (code_is l pvs e ∙ z)))
    ∙ ap (λ (n : ℕ). placed n (first_bad (guard_of l) pvs)) (sym (code_is l pvs e))

-- a bad sample leaves the list as it was, and is told with its place
bad_is : (c : In-Err) → ◌≡◌ {A = Bad} (record { code = code_for c.in-Err.bad.refusal; place = c.in-Err.bad.place }) (bad_of (guard_of c.args.l) c.args.samples.now)
bad_is c = rw c.guard.ensures at c.in-Err.ensures.value

-- where none is bad it holds the means
none : (c : In_default) → first_code (guard_of c.args.l) c.args.samples.now ≡ 0
none c = sym (code_is c.args.l c.args.samples.now (rw c.guard.ensures at c.in_default.ensures.value))

filled : (c : In_default) → length c.args.samples.now ≤ length c.args.out.now →
    c.means.new.out ≡ front_filled (reads_of c.args.l c.args.samples.now) c.args.out.now
filled c r = (rw (c.mean.ensures, c.guard.ensures) at c.means.ensures.out_after) ∙ sym (into_front _ _ _ _ _ (none c) r)

pub returns-then-not-is_valid : goal.returns-then-not-is_valid
returns-then-not-is_valid c =
    let v = c.is_valid in
    let p = plays_refused c.args.l c.args.samples.now c.args.out.now 10 (code_10 c.args.l c.args.samples.now (length c.args.out.now) (so v.ensures c.if-not-is_valid.true)) (λ z. omega (arith, z)) in
    record { value = c.stopped.ensures ∙ p.0; out_after = p.1 }

pub returns-then-out-samples : goal.returns-then-out-samples
returns-then-out-samples c =
    let v = c.is_valid in
    let p = plays_refused c.args.l c.args.samples.now c.args.out.now 12 (code_12 c.args.l c.args.samples.now (length c.args.out.now) (so v.ensures c.if-not-is_valid.false) c.if-out-samples.true) (λ z. omega (arith, z)) in
    record { value = c.stopped-then-out-samples.ensures ∙ p.0; out_after = p.1 }

pub returns-in-Err : goal.returns-in-Err
returns-in-Err c =
    let l = c.args.l in
    let pvs = c.args.samples.now in
    let e = bad_is (goal.at.returns-in-Err c).In-Err in
    let m = (goal.at.returns-in-Err c).After-means in
    let h = refused_not_0 c.in-Err.bad.refusal in
    let p = plays_refused l pvs c.args.out.now (code_for c.in-Err.bad.refusal) (code_bad l pvs (length c.args.out.now) (kept_rules m) (room m) ∙ sym (code_is l pvs e)) h in
    record {
      value = c.refused.ensures ∙ ap (refused_of l (code_for c.in-Err.bad.refusal)) (place_is l pvs e h) ∙ p.0;
      out_after = list_is m ∙ sym (into_bad _ _ _ _ _ (λ z. h (code_is l pvs e ∙ z))) ∙ p.1;
    }

pub give-requires : goal.give-requires
give-requires c =
    let m = (goal.at.give-requires c).After-means in
    let d = (goal.at.give-requires c).In_default in
    let r = reads_of c.args.l c.args.samples.now in
    let n = reads_length c.args.l c.args.samples.now in
    let e = filled d (room m) in (
      kept_rules m,
      none d,
      omega (arith, ap length e, front_long r c.args.out.now (omega (arith, n, room m)), room m),
      ap₂ take (sym n) e ∙ front_take r c.args.out.now,
    )

pub returns-clause-value : goal.returns-clause-value
returns-clause-value c =
    let m = (goal.at.returns-clause-value c).After-means in
    let d = (goal.at.returns-clause-value c).In_default in
    let p = plays_done c.args.l c.args.samples.now c.args.out.now (code_bad c.args.l c.args.samples.now (length c.args.out.now) (kept_rules m) (room m) ∙ none d) in
    ap (λ (x : Loop). record { code = 0; place = 0; state = x }) c.give.ensures.value ∙ p.0

pub returns-clause-out_after : goal.returns-clause-out_after
returns-clause-out_after c =
    let m = (goal.at.returns-clause-out_after c).After-means in
    let d = (goal.at.returns-clause-out_after c).In_default in
    let p = plays_done c.args.l c.args.samples.now c.args.out.now (code_bad c.args.l c.args.samples.now (length c.args.out.now) (kept_rules m) (room m) ∙ none d) in
    c.give.ensures.out_after
    ∙ ap (front_filled (outputs_of c.args.l c.args.samples.now)) (filled d (room m))
    ∙ front_twice (outputs_of c.args.l c.args.samples.now) (reads_of c.args.l c.args.samples.now) c.args.out.now (outputs_length c.args.l c.args.samples.now ∙ sym (reads_length c.args.l c.args.samples.now))
    ∙ p.1
