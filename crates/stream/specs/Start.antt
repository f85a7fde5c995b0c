-- How a run starts: from a settings text.
use Rattle.std.specs.Prelude.{ℕ, false, cond, List, [], ◌++◌, eqb, leb, length}
use Rattle.settings.specs.declared.Settings.{Settings}
use Rattle.command.specs.declared.Command.TheVariants.{Automatic}
use Rattle.delivery.specs.declared.numbered.Numbered.{Numbered}
use Rattle.delivery.specs.Numbered.{blank_of, made_of, delivered_of}
use Rattle.text.specs.Reader.{Reading, read_text}
use Rattle.answer.specs.declared.judge.Lines.{Lines}
use Rattle.answer.specs.declared.judge.Lines.TheVariants.{Samples, Deliveries}
use Rattle.stream.specs.Part.{no_part}
use Rattle.stream.specs.declared.run.Run.{Run}
use Rattle.stream.specs.Run.{Step, line_room, over_of, refusing}
use Rattle.stream.specs.Feed.{after, written, finishing, Ran, ran_of, out_of}

-- "It makes the loop, delivers automatic as number 1"; a journal has every delivery in its file
unfoldable pub first_loop : Lines → Settings → Numbered
first_loop Samples s = (delivered_of (made_of s).state 1 Automatic).state
first_loop Deliveries s = (made_of s).state

-- nothing of a line has come yet
abbrev pub start_of : Lines → ℕ → Numbered → Run
start_of lines line l = record {
  ended = false;
  lines = lines;
  part = no_part;
  line = line;
  state = l;
}

-- what a reading of the settings makes of the run. "A refusal of the settings reports the settings' line"
unfoldable pub begun_by : Lines → Reading → Step
begun_by lines d =
    cond (eqb d.code 0)
    (record { run = start_of lines 1 (first_loop lines d.settings); text = [] })
    (refusing (start_of lines d.line blank_of) d.code)

abbrev pub beginning : Lines → List ℕ → Step
beginning lines settings = begun_by lines (read_text settings)

-- a run that was never begun
abbrev pub no_run : Lines → Run
no_run lines = over_of (start_of lines 0 blank_of)

abbrev pub begin_of : Lines → List ℕ → ℕ → Ran
begin_of lines settings n = ran_of (leb line_room n) (no_run lines) (beginning lines settings)

abbrev pub out_begun : Lines → List ℕ → List ℕ → List ℕ
out_begun lines settings out = out_of (leb line_room (length out)) (beginning lines settings).text out

-- ---- a whole program: the settings text, then the file from its first byte to its end

abbrev pub run_over : Run → List ℕ → List ℕ
run_over r file = written r file ++ (finishing (after r file)).text

unfoldable pub output_of : Lines → List ℕ → List ℕ → List ℕ
output_of lines settings file = (beginning lines settings).text ++ run_over (beginning lines settings).run file
