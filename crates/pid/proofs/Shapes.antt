-- Records that are the same field by field.
use mathlib.Core.Path.{◌≡◌}
use mathlib.Core.Bool.{Bool}
use lib.IntN.{ℤ}
use Rattle.window.specs.declared.Window.{Window}
use Rattle.record.specs.declared.Loop.{Loop}
use Rattle.pid.specs.Numbers.{Fixed}
use Rattle.pid.specs.Numbers.{Moving}
use Rattle.pid.specs.Numbers.{Sensed}
use Rattle.pid.specs.Law.{with_moving}

pub moving_is : {w w' u u' i i' y y' : ℤ} {r p p' : Bool} → w ≡ w' → u ≡ u' → i ≡ i' → y ≡ y' → p ≡ p' →
    ◌≡◌ {A = Moving}
    (record { w = w; u = u; integral = i; y = y; primed = r; pending = p })
    (record { w = w'; u = u'; integral = i'; y = y'; primed = r; pending = p' })
moving_is a b c d e = rw (a, b, c, d, e)

pub moving_with : (l : Loop) {w w' : Window} {r r' : ℤ} {m m' : Moving} → w ≡ w' → r ≡ r' → m ≡ m' → with_moving l w r m ≡ with_moving l w' r' m'
moving_with l a b c = rw (a, b, c)

pub fixed_is : {s s' l l' h h' t t' r r' p p' i i' d d' a a' k k' : ℤ} {b : Bool} →
    s ≡ s' → l ≡ l' → h ≡ h' → t ≡ t' → r ≡ r' → p ≡ p' → i ≡ i' → d ≡ d' → a ≡ a' → k ≡ k' →
    ◌≡◌ {A = Fixed}
    (record { sign = s; lo = l; hi = h; target = t; rate = r; automatic = b; kp = p; ki = i; kd = d; alpha = a; kt = k })
    (record { sign = s'; lo = l'; hi = h'; target = t'; rate = r'; automatic = b; kp = p'; ki = i'; kd = d'; alpha = a'; kt = k' })
fixed_is s l h t r p i d a k = rw (s, l, h, t, r, p, i, d, a, k)

pub sensed_is : {w w' y y' e e' p p' d d' : ℤ} → w ≡ w' → y ≡ y' → e ≡ e' → p ≡ p' → d ≡ d' →
    ◌≡◌ {A = Sensed}
    (record { w = w; y = y; e = e; p = p; d = d })
    (record { w = w'; y = y'; e = e'; p = p'; d = d' })
sensed_is a b c d e = rw (a, b, c, d, e)
