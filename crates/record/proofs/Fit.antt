-- What owning a loop tells of its signed fields: each fits its type. `loop_fit` takes a parameter's `c.well_formed.0`.
use mathlib.Core.List.{[], ◌∷◌}
use mir.Syntax.{w32, w64}
use mir.Val.{SFits}
use denote.Laws.{Is}
use denote.Struct.Laws.{val, owed}
use Rattle.record.specs.declared.Loop.{Loop}
use Rattle.settings.proofs.Fit.{SettingsFit, settings_fit}
use Rattle.record.specs.contracts.Loop as L
use Rattle.record.proofs.Loop.TheLaws as L'

pub record LoopFit (l : Loop) : Type 0 where
  pub settings : SettingsFit l.settings
  pub w : SFits w32 l.w
  pub target : SFits w32 l.target
  pub rate : SFits w32 l.rate
  pub u : SFits w32 l.u
  pub integral : SFits w64 l.integral
  pub y : SFits w64 l.y
  pub raw : SFits w32 l.raw

pub loop_fit : (l : Loop) → Is L.the_row l (val L.the_type L'.the_laws l ∷ []) → LoopFit l
loop_fit l is =
    let g = owed L.the_type L'.the_laws l _ is in
    let h = g.1.1.1.1 in
    record {
      settings = settings_fit l.settings g.0;
      w = record { sfits = h.0.1 };
      target = record { sfits = h.1.0.1 };
      rate = record { sfits = h.1.1.0.1 };
      u = record { sfits = h.1.1.1.0.1 };
      integral = record { sfits = h.1.1.1.1.0.1 };
      y = record { sfits = h.1.1.1.1.1.1.0.1 };
      raw = record { sfits = h.1.1.1.1.1.1.1.1.0.1 };
    }
