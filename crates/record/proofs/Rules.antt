-- The state rules by name.
use mathlib.Core.Path.{◌≡◌}
use mathlib.Core.Bool.{true, ◌&&◌, ◌||◌}
use lib.Dec.{ltb}
use lib.IntN.{pos}
use Rattle.whole.specs.Numbers.{eq_z, inside}
use Rattle.whole.proofs.Truth.{both, and}
use Rattle.settings.specs.Table.{sets, in_reach}
use Rattle.settings.specs.Settings.{in_table, ordered}
use Rattle.settings.proofs.Ranges.{SettingsIn, settings_in}
use Rattle.temperature.specs.Temperature.{raw_ok}
use Rattle.window.specs.Window.{window_ok}
use Rattle.record.specs.declared.Loop.{Loop}
use Rattle.record.specs.Record.{in_rates, in_b, in_fine, places_ok, fine_ok, pending_ok, valid}

pub record Holds (l : Loop) : Type 0 where
  pub table : in_table l.settings ≡ true
  pub order : ordered l.settings ≡ true
  pub w : in_reach l.w ≡ true
  pub target : in_reach l.target ≡ true
  pub rate : in_rates l.rate ≡ true
  pub set : ltb l.set sets ≡ true
  pub u : inside l.settings.lo l.settings.hi l.u ≡ true
  pub integral : in_b l.integral ≡ true
  pub y : in_fine l.y ≡ true
  pub zero : (l.primed || eq_z l.y (pos 0)) ≡ true
  pub pending : pending_ok l ≡ true
  pub window : window_ok l.window ≡ true
  pub raw : raw_ok l.primed l.raw ≡ true

pub holds_of : (l : Loop) → valid l ≡ true → Holds l
unfolding valid
holds_of l e =
    let T = in_table l.settings in
    let O = ordered l.settings in
    let U = inside l.settings.lo l.settings.hi l.u in
    let W = in_reach l.w in
    let G = in_reach l.target in
    let R = in_rates l.rate in
    let K = ltb l.set sets in
    let I = in_b l.integral in
    let Y = in_fine l.y in
    let Z = l.primed || eq_z l.y (pos 0) in
    let x = both (T && O && places_ok l && fine_ok l && pending_ok l && window_ok l.window) (raw_ok l.primed l.raw) e in
    let v = both (T && O && places_ok l && fine_ok l && pending_ok l) (window_ok l.window) x.0 in
    let p = both (T && O && places_ok l && fine_ok l) (pending_ok l) v.0 in
    let f = both (T && O && places_ok l) (fine_ok l) p.0 in
    let s = both (T && O) (places_ok l) f.0 in
    let t = both T O s.0 in
    let u = both (W && G && R && K) U s.1 in
    let k = both (W && G && R) K u.0 in
    let r = both (W && G) R k.0 in
    let w = both W G r.0 in
    let z = both (I && Y) Z f.1 in
    let i = both I Y z.0 in
    record {
      table = t.0;
      order = t.1;
      w = w.0;
      target = w.1;
      rate = r.1;
      set = k.1;
      u = u.1;
      integral = i.0;
      y = i.1;
      zero = z.1;
      pending = p.1;
      window = v.1;
      raw = x.1;
    }

pub valid_of_holds : (l : Loop) → Holds l → valid l ≡ true
unfolding valid
valid_of_holds l h =
    and
    (and
    (and
    (and
    (and (and h.table h.order) (and (and (and (and h.w h.target) h.rate) h.set) h.u))
    (and (and h.integral h.y) h.zero))
    h.pending)
    h.window)
    h.raw

pub within_table : (l : Loop) → Holds l → SettingsIn l.settings
within_table l h = settings_in l.settings h.table
