-- What a making, a delivery and a replay tell leaves nothing of them out.
use Prim.Native.Nat.{ℕ}
use mathlib.Core.Path.{◌≡◌, sym, ap, ap₂}
use lib.IntN.{ℤ}
use Rattle.std.proofs.Common.{Result, Ok, Err}
use Rattle.std.specs.Bool.{⊤}
use Rattle.refusal.specs.declared.Refusal.{Refusal}
use Rattle.refusal.proofs.promises.Codes.{code_in_once, code_for_once, refused_not_0}
use Rattle.temperature.specs.declared.Bad.{Bad}
use Rattle.record.specs.declared.After.{After}
use Rattle.delivery.specs.declared.numbered.Numbered.{Numbered}
use Rattle.delivery.specs.declared.numbered.Delivered.{Delivered as Delivering}
use Rattle.delivery.specs.declared.replay.Replayed.{Replayed as Replaying}
use Rattle.delivery.specs.Numbered.{Made, made_told, Delivered, delivered_told}
use Rattle.delivery.specs.Replay.{Replayed, code_told, place_told, count_told, replayed_told}

pub made_once : (a b : After Numbered) → made_told a ≡ made_told b → a ≡ b
made_once a b e =
    ap₂ (λ (o : Result ⊤ Refusal) (s : Numbered). record { outcome = o; state = s })
    (code_in_once a.outcome b.outcome (ap (λ (m : Made). m.code) e))
    (ap (λ (m : Made). m.state) e)

pub delivered_once : (a b : Delivering) → delivered_told a ≡ delivered_told b → a ≡ b
delivered_once a b e =
    let o = code_in_once a.outcome b.outcome (ap (λ (d : Delivered). d.code) e) in
    let u = ap (λ (d : Delivered). d.output) e in
    let n = ap (λ (d : Delivered). d.number) e in
    let s = ap (λ (d : Delivered). d.state) e in
    whole o u n s
  where
    whole : {o p : Result ⊤ Refusal} {u v : ℤ} {n m : ℕ} {s t : Numbered} → o ≡ p → u ≡ v → n ≡ m → s ≡ t →
        ◌≡◌ {A = Delivering} (record { outcome = o; output = u; number = n; state = s }) (record { outcome = p; output = v; number = m; state = t })
    whole o u n s = cc

outcome_once : (a b : Result ℕ Bad) → code_told a ≡ code_told b → place_told a ≡ place_told b → count_told a ≡ count_told b → a ≡ b
outcome_once (Ok n) (Ok m) c p k = ap Ok k
outcome_once (Ok n) (Err b) c p k = absurd (refused_not_0 b.refusal (sym c))
outcome_once (Err a) (Ok m) c p k = absurd (refused_not_0 a.refusal c)
outcome_once (Err a) (Err b) c p k =
    ap₂ (λ (r : Refusal) (i : ℕ). Err (record { refusal = r; place = i })) (code_for_once a.refusal b.refusal c) p

pub replayed_once : (a b : Replaying) → replayed_told a ≡ replayed_told b → a ≡ b
replayed_once a b e =
    ap₂ (λ (o : Result ℕ Bad) (s : Numbered). record { outcome = o; state = s })
    (outcome_once a.outcome b.outcome (ap (λ (r : Replayed). r.code) e) (ap (λ (r : Replayed). r.place) e) (ap (λ (r : Replayed). r.count) e))
    (ap (λ (r : Replayed). r.state) e)
