-- 01, "The bench log": "The rows marked * are shown of the definitions by a single statement over one list."
use mathlib.Core.Path.{◌≡◌, refl}
use Rattle.settings.specs.Table.{rows_of}
use Rattle.settings.specs.Settings.{in_table}
use Rattle.temperature.specs.Temperature.{code_of}
use Rattle.record.specs.Record.{fresh_of, valid}
use Rattle.record.specs.Refusals.{refusal_of}
use Rattle.pid.specs.Units.{rounded}
use Rattle.settings.specs.SettingsC.{settings_c}
use Rattle.window.specs.Window.{fresh_window, taken, mean_at, window_ok}
use Rattle.pid.specs.Sample.{lesser, greater, limited, ramped, filtered, derivative, sensed_of, clamped, back_calculated, integrated, acted_of}
use Rattle.pid.specs.Law.{sample_of, step_of}
use Rattle.memory.specs.Memory.{window, memory_ok, remembered, is_last, found_in, found_by}
use Rattle.delivery.specs.Numbered.{new_of, served_of, delivered_of}
use Rattle.delivery.specs.Bench.{log, played, expected}

-- every row of the log, delivered from its start, shows what the log says: code, u, y, I, w and pending
pub bench_log : played (new_of (fresh_of settings_c)) log ≡ expected log
unfolding rounded rows_of in_table fresh_window taken mean_at window_ok valid lesser greater limited ramped filtered derivative sensed_of clamped back_calculated integrated acted_of code_of sample_of step_of refusal_of window memory_ok remembered is_last found_in found_by served_of delivered_of log played expected
bench_log = refl
