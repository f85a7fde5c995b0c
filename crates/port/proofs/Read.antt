-- What it means that settings are read from a list, and that none are.
use mathlib.Core.Path.{◌≡◌, refl}
use mathlib.Core.Bool.{Bool, true, false, cond}
use mathlib.Core.List.{List}
use lib.Dec.{eqb}
use lib.IntN.{ℤ}
use lib.ListN.{length}
use Rattle.std.specs.declared.result.Result.{Result}
use Rattle.std.specs.declared.result.Result.TheVariants.{Ok, Err}
use Rattle.refusal.specs.declared.Refusal.{Refusal}
use Rattle.refusal.specs.declared.Refusal.TheVariants.{SettingOutside}
use Rattle.settings.specs.declared.Settings.{Settings}
use Rattle.settings.specs.Table.{lines}
use Rattle.settings.specs.Settings.{settings_of}
use Rattle.port.specs.Port.{settings_in}

abbrev either : Bool → Settings → Result Settings Refusal
either b s = cond b (Ok s) (Err SettingOutside)

read_if : {s : Settings} (b : Bool) (t : Settings) → either b t ≡ Ok s → (b ≡ true) × (t ≡ s)
read_if true t e = (refl, cc)
read_if false t e = absurd (cc)

unread_if : {r : Refusal} (b : Bool) (t : Settings) → either b t ≡ Err r → (b ≡ false) × (SettingOutside ≡ r)
unread_if true t e = absurd (cc)
unread_if false t e = (refl, cc)

pub read : {s : Settings} (vs : List ℤ) → settings_in vs ≡ Ok s → (eqb (length vs) lines ≡ true) × (settings_of vs ≡ s)
unfolding settings_in
read vs e = read_if (eqb (length vs) lines) (settings_of vs) e

pub unread : {r : Refusal} (vs : List ℤ) → settings_in vs ≡ Err r → (eqb (length vs) lines ≡ false) × (SettingOutside ≡ r)
unfolding settings_in
unread vs e = unread_if (eqb (length vs) lines) (settings_of vs) e
