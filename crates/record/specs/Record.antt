-- 01, "What a loop remembers": the fresh loop, the blank, the state rules, and the making of a loop.
use Rattle.std.specs.Prelude.{ℕ, Bool, false, not, cond, ◌&&◌, ◌||◌, eqb, ltb, ℤ, pos, neg_ℤ}
use Rattle.whole.specs.Numbers.{eq_z, inside}
use Rattle.refusal.specs.Refusal.{code_in}
use Rattle.settings.specs.declared.Settings.{Settings}
use Rattle.record.specs.declared.Loop.{Loop}
use Rattle.record.specs.declared.After.{After}
use Rattle.record.specs.Units.{B, fine_reach}
use Rattle.settings.specs.Table.{in_reach, fastest, sets}
use Rattle.settings.specs.Settings.{in_table, ordered, settings_refusal, blank_settings}
use Rattle.temperature.specs.declared.Guard.{Guard}
use Rattle.temperature.specs.Temperature.{raw_ok}
use Rattle.window.specs.Window.{fresh_window, window_ok}

-- "A fresh loop: manual, not pending, set 0, w = target = sp, rate and u as set, I = 0, not primed, y = 0"
abbrev pub fresh_of : Settings → Loop
fresh_of s = record {
  settings = s;
  automatic = false;
  pending = false;
  set = 0;
  w = s.sp;
  target = s.sp;
  rate = s.rate;
  u = s.out;
  integral = pos 0;
  primed = false;
  y = pos 0;
  window = fresh_window;
  raw = pos 0;
}

-- "the blank: every number zero, manual, every flag no"
unfoldable pub blank_loop : Loop
blank_loop = record {
  settings = blank_settings;
  automatic = false;
  pending = false;
  set = 0;
  w = pos 0;
  target = pos 0;
  rate = pos 0;
  u = pos 0;
  integral = pos 0;
  primed = false;
  y = pos 0;
  window = fresh_window;
  raw = pos 0;
}

-- of what it remembers, what a raw temperature is held against (02, request 8)
abbrev pub guard_of : Loop → Guard
guard_of l = record { automatic = l.automatic; primed = l.primed; jump = l.settings.jump; raw = l.raw }

-- what a making tells: its code, and the loop beside it
pub record Made : Type 0 where
  pub code : ℕ
  pub state : Loop

abbrev pub made_told : After Loop → Made
made_told m = record { code = code_in m.outcome; state = m.state }

-- "Making a loop from settings tests 11, then 16. Where making a loop [..] is refused, what stands beside the code is the blank"
unfoldable pub made_of : Settings → Made
made_of s =
    cond (eqb (settings_refusal s) 0)
    (record { code = 0; state = fresh_of s })
    (record { code = settings_refusal s; state = blank_loop })

-- ---- the state rules

-- a rate from 1 to 2,000,000
abbrev pub in_rates : ℤ → Bool
in_rates z = inside (pos 1) (pos fastest) z

-- "w and target within ±1,000,000; rate 1 to 2,000,000; set 0 to 3", since request 5 0 to 15, "u in lo..hi"
abbrev pub places_ok : Loop → Bool
places_ok l =
    in_reach l.w && in_reach l.target && in_rates l.rate && ltb l.set sets
    && inside l.settings.lo l.settings.hi l.u

-- "|I| at most B"
abbrev pub in_b : ℤ → Bool
in_b z = inside (neg_ℤ (pos B)) (pos B) z

-- "|y| at most 65,536,000,000"
abbrev pub in_fine : ℤ → Bool
in_fine z = inside (neg_ℤ (pos fine_reach)) (pos fine_reach) z

-- "|I| at most B; |y| at most 65,536,000,000, and y = 0 while not primed"
abbrev pub fine_ok : Loop → Bool
fine_ok l = in_b l.integral && in_fine l.y && (l.primed || eq_z l.y (pos 0))

-- "not pending in manual"
abbrev pub pending_ok : Loop → Bool
pending_ok l = l.automatic || not l.pending

-- the state rules of the loop: all of 01's but the one on the last number and command. "Settings within the table" asks lo < hi
-- and out in lo..hi too
unfoldable pub valid : Loop → Bool
valid l =
    in_table l.settings && ordered l.settings && places_ok l && fine_ok l && pending_ok l && window_ok l.window && raw_ok l.primed l.raw
