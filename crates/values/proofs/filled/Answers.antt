use Prim.Native.Nat.{ℕ, ◌-◌, min}
use mathlib.Core.Path.{◌≡◌, sym, ap, ap₂, ◌∙◌}
use mathlib.Core.List.{List, ◌++◌, append-nil}
use native.Mathlib.Omega.{arith}
use borrow.Author.Tests.{leb-true, leb-false}
use borrow.Rule.Slice.PartMut.{put_mid, Post-is}
use lib.Dec.{leb}
use lib.ListN.{length, take, drop, replicate, length-take, length-drop}
use lib.Seq.{take_all, drop-length}
use Rattle.whole.proofs.Truth.{by_test}
use Rattle.settings.specs.declared.Gains.{Gains}
use Rattle.settings.specs.Table.{sets}
use Rattle.settings.proofs.Fit.{settings_fit}
use Rattle.values.proofs.filled.Goals as goal

-- the sets from the n-th on, and none where there are not so many
front : (gs : List Gains) (n m : ℕ) → length gs ≡ sets → m ≡ min n sets → take m gs ≡ take n gs
front gs n m l e =
    by_test (leb n sets)
    (λ t. let h = leb-true n sets t in ap (λ (k : ℕ). take k gs) (omega (arith, h)))
    (λ t. let h = leb-false n sets t in take_all m gs (omega (arith, h)) ∙ sym (take_all n gs (omega (arith, h))))

filled_is : (gs part : List Gains) (g : Gains) (n m : ℕ) → length gs ≡ sets → m ≡ min n sets →
    part ≡ replicate (length (take (length gs - m) (drop m gs))) g → put_mid m (length gs - m) gs part ≡ take n gs ++ replicate (sets - n) g
filled_is gs part g n m l e p =
    let long : length (take (length gs - m) (drop m gs)) ≡ sets - n = simp (length-take, length-drop) (omega arith) in
    ap₂ (λ (s t : List Gains). take m gs ++ (s ++ t)) (p ∙ ap (λ (k : ℕ). replicate k g) long) (Post-is m (length gs) gs (omega arith) ∙ drop-length gs)
    ∙ ap (λ (s : List Gains). take m gs ++ s) (append-nil (replicate (sets - n) g))
    ∙ ap (λ (s : List Gains). s ++ replicate (sets - n) g) (front gs n m l e)

pub returns : goal.returns
returns c =
    rw (filled_is c.args.settings.gains c.fill.new.self _ c.args.n c.min-from.result (settings_fit c.args.settings c.well_formed.0).sets c.min-from.ensures (c.fill.ensures.after (λ y e. e)))
