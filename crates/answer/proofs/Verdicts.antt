-- What a function that judges a line ensures, said of another name of the verdict.
use Prim.Native.Nat.{ℕ, ◌+◌, ◌≤◌}
use mathlib.Core.Path.{◌≡◌, refl, ap}
use mathlib.Core.List.{List}
use native.Mathlib.Omega.{arith}
use lib.ListN.{length}
use lib.Seq.{sets}
use Rattle.delivery.specs.declared.numbered.Numbered.{Numbered}
use Rattle.answer.specs.Verdict.{Verdict, Judged, refused, answered, judged_of, answer_room, Judges}

pub judges_by : {v u : Verdict} {most : ℕ} {l₀ l : List ℕ} {r : Judged} → u ≡ v → Judges most v l₀ r l → Judges most u l₀ r l
judges_by e p = rw e p

-- a refusal puts nothing
pub judges_refused : {most code : ℕ} {l : List ℕ} {s : Numbered} → Judges most (refused s code) l (record { code = code; state = s; len = 0 }) l
judges_refused = record { is = refl; holds = refl; few = omega arith }

-- a text that was put from the first byte on
pub judges_answered : {most n : ℕ} {l₀ l : List ℕ} (s : Numbered) (text : List ℕ) → (n ≡ 0 + length text) × (l ≡ sets l₀ 0 text) → n ≤ most + answer_room →
    Judges most (answered s text) l₀ (record { code = 0; state = s; len = n }) l
judges_answered s text p f = record {
  is = ap (λ (k : ℕ). record { code = 0; state = s; len = k }) (omega (arith, p.0));
  holds = p.1;
  few = f;
}

-- the same, apart
pub judged : {v : Verdict} {most room : ℕ} {l₀ l : List ℕ} {r : Judged} → Judges most v l₀ r l → most ≤ room →
    (r ≡ judged_of v) × ((l ≡ sets l₀ 0 v.text) × (r.len ≤ room + answer_room))
judged p h = (p.is, (p.holds, omega (arith, p.few)))
