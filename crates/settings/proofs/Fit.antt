-- What owning settings or a gain set tells of them: each signed field fits its type, and there are as many gain sets as 01
-- says. Each takes a parameter's `c.well_formed.0`, or what a call's result `.type_inv` says.
use Prim.Native.Nat.{ℕ, zero, suc, ◌<◌}
use mathlib.Core.Path.{◌≡◌}
use mathlib.Core.List.{List, [], ◌∷◌}
use native.Mathlib.Omega.{arith}
use lib.ListN.{length}
use mir.Syntax.{w32}
use mir.Val.{Val, SFits}
use denote.Array.{each}
use denote.Shadow.{shadow}
use denote.Laws.{Is}
use denote.Struct.Laws.{val, owed}
use Rattle.settings.specs.declared.Gains.{Gains}
use Rattle.settings.specs.declared.Settings.{Settings}
use Rattle.settings.specs.Table.{sets}
use Rattle.settings.specs.Settings.{gains_at}
use Rattle.settings.specs.contracts.Gains as G
use Rattle.settings.proofs.Gains.TheLaws as G'
use Rattle.settings.specs.contracts.Settings as S
use Rattle.settings.proofs.Settings.TheLaws as S'

pub record GainsFit (g : Gains) : Type 0 where
  pub kp : SFits w32 g.kp
  pub ki : SFits w32 g.ki
  pub kd : SFits w32 g.kd
  pub alpha : SFits w32 g.alpha
  pub kt : SFits w32 g.kt

pub record SettingsFit (s : Settings) : Type 0 where
  pub action : SFits w32 s.action
  pub lo : SFits w32 s.lo
  pub hi : SFits w32 s.hi
  pub out : SFits w32 s.out
  pub sp : SFits w32 s.sp
  pub rate : SFits w32 s.rate
  pub mean : SFits w32 s.mean
  pub jump : SFits w32 s.jump
  pub sets : length s.gains ≡ sets
  pub gains : (k : ℕ) → k < length s.gains → GainsFit (gains_at s.gains k)

gains_held : (g : Gains) (us : List Val) → Is G.the_row g us → GainsFit g
gains_held g us is =
    let o = owed G.the_type G'.the_laws g us is in
    record {
      kp = record { sfits = o.0.1 };
      ki = record { sfits = o.1.0.1 };
      kd = record { sfits = o.1.1.0.1 };
      alpha = record { sfits = o.1.1.1.0.1 };
      kt = record { sfits = o.1.1.1.1.0.1 };
    }

pub gains_fit : (g : Gains) → Is G.the_row g (val G.the_type G'.the_laws g ∷ []) → GainsFit g
gains_fit g is = gains_held g _ is

-- a gain set of several
one_held : (gs : List Gains) (us : List Val) → shadow (each (G.the_row).Denot (G.the_row).own_val gs us) →
    (k : ℕ) → k < length gs → GainsFit (gains_at gs k)
one_held [] us p k h = absurd (omega arith)
one_held (g ∷ gs) [] p k h = absurd p
one_held (g ∷ gs) (u ∷ us) p zero h = gains_held g (u ∷ []) p.0
one_held (g ∷ gs) (u ∷ us) p (suc k) h = one_held gs us p.1 k (omega arith)

pub settings_fit : (s : Settings) → Is S.the_row s (val S.the_type S'.the_laws s ∷ []) → SettingsFit s
settings_fit s is =
    let o = owed S.the_type S'.the_laws s _ is in
    record {
      action = record { sfits = o.0.1 };
      lo = record { sfits = o.1.0.1 };
      hi = record { sfits = o.1.1.0.1 };
      out = record { sfits = o.1.1.1.0.1 };
      sp = record { sfits = o.1.1.1.1.0.1 };
      rate = record { sfits = o.1.1.1.1.1.0.1 };
      mean = record { sfits = o.1.1.1.1.1.1.0.1 };
      jump = record { sfits = o.1.1.1.1.1.1.1.0.1 };
      sets = o.1.1.1.1.1.1.1.1.0.1.0.1;
      gains = one_held s.gains _ o.1.1.1.1.1.1.1.1.0.1.1;
    }
