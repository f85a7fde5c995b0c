-- 01, "Settings text": "Settings C, whole". Its text ends after 26 lines, so by 02's request 5 it has "sets 4 to 15 equal to
-- set 0"; it has neither mean nor jump, so by requests 7 and 8 these are 1 and 2,000,000.
use Rattle.std.specs.Prelude.{ℕ, [], ◌∷◌, ℤ, pos}
use Rattle.settings.specs.declared.Gains.{Gains}
use Rattle.settings.specs.declared.Settings.{Settings}
use Rattle.settings.specs.Table.{farthest, short_sets}
use Rattle.settings.specs.Settings.{filled}

abbrev pub gain_set : ℕ → ℕ → ℕ → ℕ → ℕ → Gains
gain_set kp ki kd alpha kt = record { kp = pos kp; ki = pos ki; kd = pos kd; alpha = pos alpha; kt = pos kt }

-- with lines for mean and jump too
abbrev pub settings_with : ℤ → ℤ → Settings
settings_with mean jump = filled short_sets (record {
  action = pos 0;
  lo = pos 0;
  hi = pos 1000;
  out = pos 100;
  sp = pos 500;
  rate = pos 50;
  mean = mean;
  jump = jump;
  gains =
      gain_set 65536 16384 0 65536 0
      ∷ gain_set 131072 16384 65536 32768 0
      ∷ gain_set 65536 16384 0 65536 32768
      ∷ gain_set 32768 0 0 65536 0
      ∷ [];
})

abbrev pub settings_c : Settings
settings_c = settings_with (pos 1) (pos farthest)
