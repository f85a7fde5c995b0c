use Prim.Native.Nat.{◌-◌}
use mathlib.Core.Path.{◌≡◌, refl, sym, ap, ◌∙◌}
use mathlib.Core.Bool.{Bool, true, false, ◌&&◌}
use mathlib.Core.List.{List}
use native.Mathlib.Omega.{arith}
use lib.IntN.{ℤ}
use lib.ListN.{drop_of_length-le}
use Rattle.window.specs.Window.{places_ok, window_ok}
use Rattle.window.proofs.Fit.{window_fit}
use Rattle.window.proofs.Window.is_valid.Goals as goal

and_true : (a : Bool) → (a && true) ≡ a
and_true true = refl
and_true false = refl

pub returns : goal.returns
unfolding window_ok
returns c =
    let l = c.loop-i in
    let f = window_fit c.args.self c.well_formed.0 in
    let d = drop_of_length-le c.args.self.places {i = l.i} (omega (arith, f.places, c.loop-i-test.false)) in
    sym (l.invariant ∙ ap (λ (xs : List ℤ). l.ok && places_ok (c.args.self.seen - l.i) xs) d ∙ and_true l.ok)
