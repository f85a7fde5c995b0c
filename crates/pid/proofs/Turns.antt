-- The loop over what the law reads, which takes the outputs in its place: one turn, and its end.
use Prim.Native.Nat.{ℕ, suc, ◌+◌, ◌<◌, ◌≤◌}
use mathlib.Core.Path.{◌≡◌, refl, sym, ap, ◌∙◌}
use mathlib.Core.Bool.{true}
use mathlib.Core.List.{List, [], ◌∷◌, ◌++◌}
use Rattle.std.proofs.Common.{append_assoc}
use native.Mathlib.Numerals.{add-one}
use native.Mathlib.Omega.{arith}
use lib.IntN.{ℤ, pos}
use lib.ListN.{length, take, drop, get_or, set, length-set}
use lib.Seq.{length-take-le, sets, drop-cons, drop-length, drop-drop, drop-set-lt, get_or-drop}
use Rattle.whole.specs.Numbers.{Within}
use Rattle.pid.specs.Numbers.{Fixed}
use Rattle.pid.specs.Numbers.{Moving}
use Rattle.settings.specs.Table.{reach}
use Rattle.temperature.specs.Temperature.{ranged}
use Rattle.temperature.proofs.Ranged.{ranged_first, ranged_on}
use Rattle.window.specs.Means.{front_filled}
use Rattle.window.proofs.Taken.{sets_front}
use Rattle.pid.specs.Sample.{moved_of}
use Rattle.pid.specs.Bounds.{FixedOk, MovingOk}
use Rattle.command.specs.Sequence.{after, each}
use Rattle.pid.specs.Play.{moved_after, moved_outputs}
use Rattle.pid.proofs.Sound.{in_range}
use Rattle.pid.proofs.Samples.{sensed_ok, acted_ok}

pub each_length : {S X A : Type 0} (step : S → X → S) (answer : S → X → A) (s : S) (xs : List X) → length (each step answer s xs) ≡ length xs
unfolding each
each_length step answer s [] = refl
each_length step answer s (x ∷ xs) = ap suc (each_length step answer (step s x) xs)

-- what holds at each turn: what is left to do, done from here, gives what all of it gives from the start
pub record Turn (f : Fixed) (pvs out₀ : List ℤ) (m₀ : Moving) (out : List ℤ) (m : Moving) (i : ℕ) : Type 0 where
  pub bound : i ≤ length pvs
  pub long : length out ≡ length out₀
  pub rest : drop i out ≡ drop i out₀
  pub good : ranged (drop i pvs) ≡ true
  pub ok : MovingOk m
  pub outputs : sets out i (moved_outputs f m (drop i pvs)) ≡ sets out₀ 0 (moved_outputs f m₀ pvs)
  pub moved : moved_after f m (drop i pvs) ≡ moved_after f m₀ pvs

module _ {f : Fixed} {pvs out₀ : List ℤ} {m₀ : Moving} {out : List ℤ} {m : Moving} {i : ℕ} (t : Turn f pvs out₀ m₀ out m i) where
  -- what is read is what stood there at first
  pub here : get_or out i (pos 0) ≡ get_or out₀ i (pos 0)
  here =
      let e : i + 0 ≡ i = omega arith in
      rw e at (sym (get_or-drop i out 0 (pos 0)) ∙ ap (λ (xs : List ℤ). get_or xs 0 (pos 0)) t.rest ∙ get_or-drop i out₀ 0 (pos 0))

  module _ (more : i < length pvs) where
    pub sample_in : Within reach (get_or pvs i (pos 0))
    sample_in = in_range 999999 (get_or pvs i (pos 0)) (ranged_on pvs i more t.good).0

    pub moved_ok : FixedOk f → MovingOk (moved_of f m (get_or pvs i (pos 0)))
    moved_ok g = acted_ok _ _ _ g t.ok (sensed_ok _ _ _ g t.ok sample_in)

    pub next_turn : FixedOk f → Turn f pvs out₀ m₀ (set out i (moved_of f m (get_or pvs i (pos 0))).u) (moved_of f m (get_or pvs i (pos 0))) (i + 1)
    unfolding after each
    next_turn g = record {
      bound = omega arith;
      long = length-set out i _ ∙ t.long;
      rest =
          drop-set-lt (i + 1) out i _ (omega arith)
          ∙ sym (drop-drop 1 i out)
          ∙ ap (drop 1) t.rest
          ∙ drop-drop 1 i out₀;
      good = (ranged_on pvs i more t.good).1;
      ok = moved_ok g;
      outputs = rw (add-one i) (rw (drop-cons pvs i (pos 0) more) at t.outputs);
      moved = rw (add-one i) (rw (drop-cons pvs i (pos 0) more) at t.moved);
    }

  module _ (none : length pvs ≤ i) where
    end : i ≡ length pvs
    end = omega (arith, t.bound)

    pub end_moved : m ≡ moved_after f m₀ pvs
    unfolding after
    end_moved = rw (end, drop-length pvs) at t.moved

    pub end_outputs : length pvs ≤ length out₀ → out ≡ front_filled (moved_outputs f m₀ pvs) out₀
    unfolding each
    end_outputs h = (rw (end, drop-length pvs) at t.outputs) ∙ sets_front out₀ (moved_outputs f m₀ pvs) (rw (each_length (moved_of f) _ m₀ pvs) h)

-- what moves stays within its bounds
pub all_ok : (f : Fixed) (m : Moving) (pvs : List ℤ) → FixedOk f → MovingOk m → ranged pvs ≡ true → MovingOk (moved_after f m pvs)
unfolding after
all_ok f m [] g o e = o
all_ok f m (pv ∷ pvs) g o e =
    let h = ranged_first pv pvs e in
    all_ok f (moved_of f m pv) pvs g (acted_ok _ _ _ g o (sensed_ok _ _ _ g o (in_range 999999 pv h.0))) h.1

-- a front that is filled whole, with what stands behind it
pub front_joined : (us out : List ℤ) (n : ℕ) → n ≤ length out → length us ≡ n → front_filled us (take n out) ++ drop n out ≡ front_filled us out
front_joined us out n h e =
    let l = length-take-le n out h in
    rw (e ∙ sym l, drop-length (take n out), append_assoc, l)
