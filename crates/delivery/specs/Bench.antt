-- 01, "The bench log": every row of the log with its start and what it must show.
use Rattle.std.specs.Prelude.{ℕ, Bool, true, false, List, [], ◌∷◌, ℤ, pos, replicate}
use Rattle.command.specs.declared.Command.{Command}
use Rattle.command.specs.declared.Command.TheVariants.{Sample, Hold, Put, Automatic, Target, Set}
use Rattle.record.specs.declared.Loop.{Loop}
use Rattle.record.specs.Units.{fine}
use Rattle.settings.specs.SettingsC.{settings_c}
use Rattle.window.specs.Window.{fresh_window}
use Rattle.record.specs.Record.{fresh_of}
use Rattle.memory.specs.Memory.{last_number, window, entry_of}
use Rattle.delivery.specs.declared.numbered.Numbered.{Numbered}
use Rattle.delivery.specs.Numbered.{Delivered, record_of, new_of, delivered_of}

-- ---- rows

-- where a row starts: where the row before it ended, or from a record of its own
pub data Start : Type 0 where
  onward : Start
  from : Numbered → Start

-- what a row shows: code and u of the answer, then y, I, w and pending of the record
pub record Shown : Type 0 where
  pub code : ℕ
  pub u : ℤ
  pub y : ℤ
  pub integral : ℤ
  pub w : ℤ
  pub pending : Bool

pub record Row : Type 0 where
  pub start : Start
  pub number : ℕ
  pub command : Command
  pub shown : Shown

abbrev pub shows : ℕ → ℕ → ℤ → ℤ → ℕ → Bool → Shown
shows code u y i w pending = record { code = code; u = pos u; y = y; integral = i; w = pos w; pending = pending }

abbrev pub row : Start → ℕ → Command → Shown → Row
row start number c shown = record { start = start; number = number; command = c; shown = shown }

-- ---- the log

-- "At the upper limit, ordinary sample 400, w = target = 500, y = 400": set k, with I
abbrev pub at_limit : ℕ → ℤ → Loop
at_limit k i = record {
  settings = settings_c;
  automatic = true;
  pending = false;
  set = k;
  w = pos 500;
  target = pos 500;
  rate = pos 50;
  u = pos 100;
  integral = i;
  primed = true;
  y = fine 400 0;
  window = fresh_window;
  raw = pos 400;
}

-- "A fresh loop from C, in order": every row, and the cases below the log. Those that 01 marks * are marked here too
unfoldable pub log : List Row
log =
    row onward 1 (Sample (pos 480)) (shows 0 100 (fine 480 0) (fine 0 0) 500 false)  -- *
    ∷ row onward 2 Automatic (shows 0 100 (fine 480 0) (fine 0 0) 500 true)
    ∷ row onward 3 (Sample (pos 480)) (shows 0 100 (fine 480 0) (fine 80 0) 500 false)  -- *
    ∷ row onward 4 (Sample (pos 480)) (shows 0 105 (fine 480 0) (fine 85 0) 500 false)  -- *
    ∷ row onward 4 (Sample (pos 480)) (shows 0 105 (fine 480 0) (fine 85 0) 500 false)  -- *
    ∷ row onward 4 (Sample (pos 481)) (shows 2 105 (fine 480 0) (fine 85 0) 500 false)  -- *
    ∷ row onward 6 (Sample (pos 480)) (shows 3 105 (fine 480 0) (fine 85 0) 500 false)  -- *
    ∷ row onward 5 (Sample (pos 478)) (shows 0 113 (fine 478 0) (fine 90 50) 500 false)  -- *
    ∷ row onward 6 (Set (pos 1)) (shows 0 113 (fine 478 0) (fine 90 50) 500 true)
    ∷ row onward 7 (Sample (pos 476)) (shows 0 113 (fine 477 0) (fine 64 0) 500 false)  -- *
    ∷ row onward 8 (Sample (pos 476)) (shows 0 119 (fine 476 50) (fine 70 0) 500 false)  -- *
    ∷ row onward 9 (Target (pos 800) (pos 50)) (shows 0 119 (fine 476 50) (fine 70 0) 500 false)
    ∷ row onward 10 (Sample (pos 476)) (shows 0 237 (fine 476 25) (fine 88 50) 550 false)  -- *
    ∷ row onward 11 (Put (pos 50)) (shows 6 237 (fine 476 25) (fine 88 50) 550 false)
    ∷ row (from (new_of (at_limit 0 (fine 900 0)))) 1 (Sample (pos 400)) (shows 0 1000 (fine 400 0) (fine 900 0) 500 false)
    ∷ row (from (new_of (at_limit 0 (fine 890 0)))) 1 (Sample (pos 400)) (shows 0 1000 (fine 400 0) (fine 900 0) 500 false)  -- *
    ∷ row (from (new_of (at_limit 0 (fine 950 0)))) 1 (Sample (pos 400)) (shows 0 1000 (fine 400 0) (fine 950 0) 500 false)
    ∷ row (from (new_of (at_limit 2 (fine 900 0)))) 1 (Sample (pos 400)) (shows 0 1000 (fine 400 0) (fine 912 50) 500 false)  -- *
    ∷ row (from (new_of (fresh_of settings_c))) 1 (Sample (pos 1000000)) (shows 0 100 (fine 1000000 0) (fine 0 0) 500 false)
    ∷ row onward 2 (Sample (pos 1000001)) (shows 4 100 (fine 1000000 0) (fine 0 0) 500 false)
    ∷ row (from (record_of (fresh_of settings_c) 4294967294 (replicate window (entry_of Hold (pos 100))))) last_number Hold (shows 0 100 (fine 0 0) (fine 0 0) 500 false)
    ∷ []

-- ---- what the definitions make of it

abbrev pub start_of : Start → Numbered → Numbered
start_of onward s = s
start_of (from start) s = start

abbrev pub shown_of : Delivered → Shown
shown_of r = record {
  code = r.code;
  u = r.output;
  y = r.state.state.y;
  integral = r.state.state.integral;
  w = r.state.state.w;
  pending = r.state.state.pending;
}

-- each row's delivery, made from its start; s is where the row before it ended
unfoldable pub played : Numbered → List Row → List Shown
played s [] = []
played s (r ∷ rs) =
    let d = delivered_of (start_of r.start s) r.number r.command in
    shown_of d ∷ played d.state rs

unfoldable pub expected : List Row → List Shown
expected [] = []
expected (r ∷ rs) = r.shown ∷ expected rs
