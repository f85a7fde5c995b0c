-- 01, "Units" and "Settings text", with 02's requests 5, 7 and 8: the settings as values in the order of the rows, and what is wrong with them.
use Rattle.std.specs.Prelude.{ℕ, zero, suc, ◌+◌, ◌-◌, Bool, true, false, cond, ◌&&◌, List, [], ◌∷◌, ◌++◌, get_or, take, drop, replicate, ℤ, pos}
use Rattle.std.specs.Int.Signed.{lt_z}
use Rattle.whole.specs.Numbers.{inside}
use Rattle.settings.specs.declared.table.Row.{Row}
use Rattle.settings.specs.declared.Gains.{Gains}
use Rattle.settings.specs.declared.Settings.{Settings}
use Rattle.settings.specs.Table.{farthest, sets, firsts, heads, keys, lines_for, lines, each, rows, table, no_row, in_row}

-- ---- the values in the order of the rows

-- those of one gain set
abbrev pub gain_values : Gains → List ℤ
gain_values g = g.kp ∷ g.ki ∷ g.kd ∷ g.alpha ∷ g.kt ∷ []

-- those before the gain sets'
abbrev pub head_values : Settings → List ℤ
head_values s = s.action ∷ s.lo ∷ s.hi ∷ s.out ∷ s.sp ∷ s.rate ∷ s.mean ∷ s.jump ∷ []

abbrev pub values_of : Settings → List ℤ
values_of s = head_values s ++ each gain_values s.gains

-- ---- and back

abbrev pub no_gains : Gains
no_gains = record { kp = pos 0; ki = pos 0; kd = pos 0; alpha = pos 0; kt = pos 0 }

-- gain set k
abbrev pub gains_at : List Gains → ℕ → Gains
gains_at gs k = get_or gs k no_gains

-- the gain set whose values begin at place i
abbrev pub gains_from : ℕ → List ℤ → Gains
gains_from i vs = record {
  kp = get_or vs i (pos 0);
  ki = get_or vs (i + 1) (pos 0);
  kd = get_or vs (i + 2) (pos 0);
  alpha = get_or vs (i + 3) (pos 0);
  kt = get_or vs (i + 4) (pos 0);
}

-- n gain sets, whose values begin at place i
abbrev pub sets_from : ℕ → ℕ → List ℤ → List Gains
sets_from i zero vs = []
sets_from i (suc n) vs = gains_from i vs ∷ sets_from (i + keys) n vs

abbrev pub settings_of : List ℤ → Settings
settings_of vs = record {
  action = get_or vs 0 (pos 0);
  lo = get_or vs 1 (pos 0);
  hi = get_or vs 2 (pos 0);
  out = get_or vs 3 (pos 0);
  sp = get_or vs 4 (pos 0);
  rate = get_or vs 5 (pos 0);
  mean = get_or vs 6 (pos 0);
  jump = get_or vs 7 (pos 0);
  gains = sets_from heads sets vs;
}

-- "with sets 4 to 15 equal to set 0": set 0 in the place of each set from n on
abbrev pub filled : ℕ → Settings → Settings
filled n s = record {
  action = s.action;
  lo = s.lo;
  hi = s.hi;
  out = s.out;
  sp = s.sp;
  rate = s.rate;
  mean = s.mean;
  jump = s.jump;
  gains = take n s.gains ++ replicate (sets - n) (gains_at s.gains 0);
}

-- the values of the rows that a text may leave out, where it does: it "is read as mean 1", "and one without jump means 2,000,000"
abbrev pub absent : List ℤ
absent = pos 1 ∷ pos farthest ∷ []

-- the values of all rows, from those of the rows that have a line, of which h stand before the gain sets
abbrev pub completed : ℕ → List ℤ → List ℤ
completed h vs = take h vs ++ (drop (h - firsts) absent ++ drop h vs)

-- values before any line is read
abbrev pub unread : List ℤ
unread = completed firsts (replicate (lines_for firsts sets) (pos 0))

-- "the blank: every number zero"
unfoldable pub blank_settings : Settings
blank_settings = settings_of (replicate lines (pos 0))

-- ---- what is wrong with settings

-- each value within its row's range
abbrev pub all_in : List Row → List ℤ → Bool
all_in [] vs = true
all_in (r ∷ rs) [] = false
all_in (r ∷ rs) (z ∷ vs) = in_row r z && all_in rs vs

-- each value within the range of its row, where the rows begin at place j of the table
abbrev pub held_from : ℕ → List ℤ → Bool
held_from j [] = true
held_from j (z ∷ vs) = in_row (get_or table j no_row) z && held_from (j + 1) vs

-- no "value outside its own range" (code 11)
unfoldable pub in_table : Settings → Bool
in_table s = all_in rows (values_of s)

-- not "lo not below hi, or out outside lo..hi" (code 16)
abbrev pub ordered : Settings → Bool
ordered s = lt_z s.lo s.hi && inside s.lo s.hi s.out

-- "Making a loop from settings tests 11, then 16."
abbrev pub settings_refusal : Settings → ℕ
settings_refusal s = cond (in_table s) (cond (ordered s) 0 16) 11
