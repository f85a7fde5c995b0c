-- 01's own example and those of its readings, computed by the definitions: the whole output of settings C and a file.
use Prim.Native.Nat.{ℕ}
use mathlib.Core.Path.{◌≡◌, refl, ap, ◌∙◌}
use Rattle.answer.specs.declared.judge.Lines.TheVariants.{Samples}
use mathlib.Core.List.{List, [], ◌∷◌, ◌++◌}
use lib.IntN.{pos}
use Rattle.whole.specs.Words.{bytes}
use Rattle.settings.specs.Table.{rows_of}
use Rattle.settings.specs.Settings.{in_table}
use Rattle.settings.specs.SettingsC.{settings_with}
use Rattle.record.specs.Record.{valid, made_of}
use Rattle.record.specs.Refusals.{refusal_of}
use Rattle.pid.specs.Units.{rounded}
use Rattle.pid.specs.Sample.{lesser, greater, limited, ramped, filtered, derivative, sensed_of, clamped, back_calculated, integrated, acted_of}
use Rattle.pid.specs.Law.{sample_of, step_of}
use Rattle.memory.specs.Memory.{window, memory_ok, remembered, is_last, found_in, found_by}
use Rattle.delivery.specs.Numbered.{served_of, delivered_of}
use Rattle.word.specs.Decimal.{is_size, has_minus, unsigned, size_of, is_decimal, number_of, shown}
use Rattle.text.specs.Reader.{Reading, read_text}
use Rattle.text.proofs.SettingsC.{text_c, c_read}
use Rattle.temperature.specs.Temperature.{code_of}
use Rattle.window.specs.Window.{fresh_window, taken, mean_at, window_ok}
use Rattle.stream.specs.Run.{refused_line, keeping}
use Rattle.answer.specs.Oven.{by_answer, by_sample, sample_line}
use Rattle.stream.specs.Feed.{judging, byte_of, finishing}
use Rattle.stream.specs.Start.{first_loop, begun_by, run_over, output_of}

pub record Case : Type 0 where
  pub file : List ℕ
  pub output : List ℕ

-- "With settings C and samples 480, 480, 478 the whole output is three lines: 100, 105, 113."
pub three : Case
three = record { file = bytes "480\n480\n478\n"; output = bytes "100\n105\n113\n" }

-- a refusal ends a run that is under way, and the outputs before it stand
pub malformed : Case
malformed = record { file = bytes "480\n480\nx\n"; output = bytes "100\n105\nrefused 14 3\n" }

-- lines are judged one by one, in order
pub range : Case
range = record { file = bytes "480\n1000001\nx\n"; output = bytes "100\nrefused 4 2\n" }

-- an empty file has no line to be malformed
pub empty : Case
empty = record { file = []; output = [] }

-- "or a last one without its line feed, is 14"
pub unended : Case
unended = record { file = bytes "480\n480"; output = bytes "100\nrefused 14 2\n" }

-- with jump 10, a sample further away is refused 19 with its line (02, request 8)
pub wild : Case
wild = record { file = bytes "480\n490\n479\n"; output = bytes "100\n93\nrefused 19 3\n" }

pub outputs : List Case → List (List ℕ)
outputs [] = []
outputs (c ∷ cs) = c.output ∷ outputs cs

pub played : List Case → List (List ℕ)
played [] = []
played (c ∷ cs) = output_of Samples text_c c.file ∷ played cs

pub cases : List Case
cases = three ∷ malformed ∷ range ∷ empty ∷ unended ∷ []

-- the same from what the settings text is read as
pub played_by : Reading → List Case → List (List ℕ)
played_by d [] = []
played_by d (c ∷ cs) = ((begun_by Samples d).text ++ run_over (begun_by Samples d).run c.file) ∷ played_by d cs

by_reading : (cs : List Case) → played cs ≡ played_by (read_text text_c) cs
unfolding played played_by output_of
by_reading [] = refl
by_reading (c ∷ cs) = ap (λ (os : List (List ℕ)). output_of Samples text_c c.file ∷ os) (by_reading cs)

pub examples : played cases ≡ outputs cases
unfolding rows_of in_table rounded fresh_window taken mean_at window_ok valid made_of lesser greater limited ramped filtered derivative sensed_of clamped back_calculated integrated acted_of code_of sample_of step_of refusal_of window memory_ok remembered is_last found_in found_by served_of delivered_of is_size has_minus unsigned size_of is_decimal number_of shown refused_line keeping by_answer by_sample sample_line judging byte_of finishing first_loop begun_by played_by three malformed range empty unended outputs cases
examples = by_reading cases ∙ ap (λ (d : Reading). played_by d cases) c_read ∙ refl

pub wild_refused : played_by (record { code = 0; line = 0; settings = settings_with (pos 1) (pos 10) }) (wild ∷ []) ≡ outputs (wild ∷ [])
unfolding rows_of in_table rounded fresh_window taken mean_at window_ok valid made_of lesser greater limited ramped filtered derivative sensed_of clamped back_calculated integrated acted_of code_of sample_of step_of refusal_of window memory_ok remembered is_last found_in found_by served_of delivered_of is_size has_minus unsigned size_of is_decimal number_of shown refused_line keeping by_answer by_sample sample_line judging byte_of finishing first_loop begun_by played_by wild outputs
wild_refused = refl
