-- An oven of which a list of deliveries goes through a half at each place where 01 rounds, and its two mirror images: a cooler
-- under the same temperatures, and an oven under the opposite ones. All of it is computed by the definitions.
use Prim.Native.Nat.{ℕ}
use mathlib.Core.Path.{◌≡◌, refl}
use mathlib.Core.List.{List, [], ◌∷◌, ◌++◌, map}
use lib.ListN.{take}
use lib.IntN.{ℤ, pos, negsuc, neg_ℤ, ◌-ℤ◌, ◌*ℤ◌}
use Rattle.settings.specs.declared.Settings.{Settings}
use Rattle.settings.specs.Table.{farthest, short_sets, rows_of}
use Rattle.settings.specs.Settings.{filled, in_table}
use Rattle.settings.specs.SettingsC.{gain_set}
use Rattle.temperature.specs.Temperature.{code_of, first_code}
use Rattle.command.specs.declared.Command.{Command}
use Rattle.command.specs.declared.Command.TheVariants.{Sample, Put, Automatic, Set}
use Rattle.command.specs.Sequence.{after, each}
use Rattle.window.specs.Window.{fresh_window, taken, mean_at, window_ok}
use Rattle.record.specs.declared.Loop.{Loop}
use Rattle.record.specs.Units.{F, fine}
use Rattle.record.specs.Record.{valid}
use Rattle.record.specs.Record.{made_of as loop_made_of}
use Rattle.record.specs.Refusals.{refusal_of}
use Rattle.pid.specs.Units.{rounded}
use Rattle.pid.specs.Sample.{lesser, greater, limited, ramped, filtered, derivative, sensed_of, v_of, limited_v, clamped, back_calculated, integrated, acted_of}
use Rattle.pid.specs.Law.{fixed_of, moving_of, read_at, sample_of, step_of, law_of}
use Rattle.pid.specs.Run.{sensed_at}
use Rattle.pid.specs.Play.{play_refusal, wrote_of}
use Rattle.memory.specs.Memory.{window, memory_ok, remembered, is_last, found_in, found_by}
use Rattle.memory.specs.Walk.{Delivery, Answer}
use Rattle.delivery.specs.declared.numbered.Numbered.{Numbered}
use Rattle.delivery.specs.Numbered.{made_of, served_of, delivered_of}
use Rattle.delivery.specs.Demand3.{handed_back, answered}
use Rattle.delivery.specs.Replay.{numbered, replay_refusal, written_of}
use Rattle.mirror.specs.Mirror.{Mirror, of_action, of_temperatures, flip_temperature, flip_settings, flip_delivery, least_value, Opposed}
use Rattle.mirror.proofs.Held.{least_turned}

-- ---- the oven and its mirror images

-- set 0 filters by the least alpha; set 1 takes halves in the filter, in D and by kt; set 2 has kp = 1/2 and nothing else; sets
-- 4 to 15 are set 0
abbrev like : ℤ → ℤ → ℤ → ℤ → ℤ → Settings
like action lo hi out sp = filled short_sets (record {
  action = action;
  lo = lo;
  hi = hi;
  out = out;
  sp = sp;
  rate = pos 50;
  mean = pos 1;
  jump = pos farthest;
  gains =
      gain_set 0 0 0 1 0
      ∷ gain_set 65536 0 32768 32768 32768
      ∷ gain_set 32768 0 0 65536 0
      ∷ gain_set 0 0 0 65536 0
      ∷ [];
})

abbrev oven : Settings
oven = like (pos 0) (pos 0) (pos 1000) (pos 100) (pos 500)

-- "Flip only the action, the limits (to -hi..-lo), out"
pub cooler : flip_settings of_action oven ≡ like (pos 1) (neg_ℤ (pos 1000)) (pos 0) (neg_ℤ (pos 100)) (pos 500)
cooler = refl

-- "Keep the action and flip limits, out, [..] sp"
pub cold_oven : flip_settings of_temperatures oven ≡ like (pos 0) (neg_ℤ (pos 1000)) (pos 0) (neg_ℤ (pos 100)) (neg_ℤ (pos 500))
cold_oven = refl

pub accepted : ((made_of oven).code ≡ 0) × ((made_of (flip_settings of_action oven)).code ≡ 0) × ((made_of (flip_settings of_temperatures oven)).code ≡ 0)
unfolding loop_made_of in_table rows_of
accepted = (refl, refl, refl)

-- ---- what a sample rounds

-- (pv × F - y) × alpha: the filter's step
abbrev follow : Loop → ℤ → ℤ
follow l pv = (read_at l pv *ℤ pos F -ℤ l.y) *ℤ (fixed_of l).alpha

-- kd × s × (y - y'): D
abbrev slope : Loop → ℤ → ℤ
slope l pv = (fixed_of l).kd *ℤ (fixed_of l).sign *ℤ (l.y -ℤ (sensed_at l pv).y)

-- U: the output
abbrev level : Loop → ℤ → ℤ
level l pv = limited_v (fixed_of l) (moving_of l) (sensed_at l pv)

-- kt × (U - v): the share of kt
abbrev backed : Loop → ℤ → ℤ
backed l pv = (fixed_of l).kt *ℤ (level l pv -ℤ v_of (fixed_of l) (moving_of l) (sensed_at l pv))

-- ---- the deliveries

abbrev send : ℕ → Command → Delivery Command
send number c = record { number = number; command = c }

-- the put takes u to hi. The sixth is a transfer sample: y moves by half a fine unit, and D is half of one. Of the seventh v
-- lies one fine unit past hi, and kt gives half of it back. Of the tenth U is 998.5. Then a repeat, a late repeat, a gap
-- and a refused put
abbrev sent : List (Delivery Command)
sent =
    send 1 (Put (pos 1000))
    ∷ send 2 (Sample (pos 0))
    ∷ send 3 (Sample (negsuc 0))
    ∷ send 4 Automatic
    ∷ send 5 (Set (pos 1))
    ∷ send 6 (Sample (pos 0))
    ∷ send 7 (Sample (pos 0))
    ∷ send 8 (Set (pos 2))
    ∷ send 9 (Sample (pos 0))
    ∷ send 10 (Sample (pos 3))
    ∷ send 10 (Sample (pos 3))
    ∷ send 9 (Sample (pos 0))
    ∷ send 12 (Sample (pos 3))
    ∷ send 11 (Put (pos 50))
    ∷ []

-- ---- what they show of a loop that is made from settings

pub record Shown : Type 0 where
  -- what the sixth sample rounds for the filter and for D, the seventh by kt, the tenth for the output
  pub halves : List ℤ
  -- the answers: a code, an output and a number each
  pub answers : List (Answer ℤ)
  -- u, I, w and y after all of them
  pub four : List ℤ
  -- the tenth under the plain law: code and u
  pub law : ℕ × ℤ
  -- the ninth and the tenth as a list of samples under the plain law and as a replay, into a list of three
  pub played : List ℤ
  pub replayed : List ℤ

-- the record after the first n of them
abbrev record_after : Settings → List (Delivery Command) → ℕ → Numbered
record_after s ds n = after handed_back (made_of s).state (take n ds)

-- ds is the list as it is delivered, temperature what becomes of a temperature, blank what stands in the lists before
abbrev shown_of : Settings → List (Delivery Command) → (ℤ → ℤ) → ℤ → Shown
shown_of s ds temperature blank =
    let at = record_after s ds in
    let zero = temperature (pos 0) in
    let three = temperature (pos 3) in
    let tenth = law_of (at 9).state (Sample three) in
    let end = (after handed_back (made_of s).state ds).state in
    record {
      halves = follow (at 5).state zero ∷ slope (at 5).state zero ∷ backed (at 6).state zero ∷ level (at 9).state three ∷ [];
      answers = each handed_back answered (made_of s).state ds;
      four = end.u ∷ end.integral ∷ end.w ∷ end.y ∷ [];
      law = (tenth.code, tenth.state.u);
      played = wrote_of (at 8).state (zero ∷ three ∷ []) (blank ∷ blank ∷ blank ∷ []);
      replayed = written_of (at 8) 9 (zero ∷ three ∷ []) (blank ∷ blank ∷ blank ∷ []);
    }

abbrev image_shown : Mirror → Shown
image_shown k = shown_of (flip_settings k oven) (map (flip_delivery k) sent) (flip_temperature k) (neg_ℤ (pos 7))

abbrev half : ℤ
half = pos 32768

-- the codes and numbers, with the output before the tenth and from there on: the late repeat has the output of the ninth
abbrev answers_with : ℤ → ℤ → List (Answer ℤ)
answers_with u v =
    map (λ n. record { code = 0; output = u; number = n }) (1 ∷ 2 ∷ 3 ∷ 4 ∷ 5 ∷ 6 ∷ 7 ∷ 8 ∷ 9 ∷ [])
    ++ map (λ code. record { code = code; output = v; number = 10 }) (0 ∷ 0 ∷ [])
    ++ (record { code = 0; output = u; number = 9 } ∷ map (λ code. record { code = code; output = v; number = 10 }) (3 ∷ 6 ∷ []))

-- the oven; the cooler: "every output and the integral change sign, w and y do not"; the cold oven: "outputs, integral, w and y
-- all change sign". Each place that rounds meets a half, of either sign in one of the three or another
pub mirrored :
    (shown_of oven sent (λ z. z) (pos 7)
    ≡ record {
      halves = half ∷ neg_ℤ half ∷ neg_ℤ half ∷ fine 998 50 ∷ [];
      answers = answers_with (pos 1000) (pos 999);
      four = pos 999 ∷ fine 750 0 ∷ pos 500 ∷ fine 3 0 ∷ [];
      law = (0, pos 999);
      played = pos 1000 ∷ pos 999 ∷ pos 7 ∷ [];
      replayed = pos 1000 ∷ pos 999 ∷ pos 7 ∷ [];
    })
    × (image_shown of_action
    ≡ record {
      halves = half ∷ half ∷ half ∷ neg_ℤ (fine 998 50) ∷ [];
      answers = answers_with (neg_ℤ (pos 1000)) (neg_ℤ (pos 999));
      four = neg_ℤ (pos 999) ∷ neg_ℤ (fine 750 0) ∷ pos 500 ∷ fine 3 0 ∷ [];
      law = (0, neg_ℤ (pos 999));
      played = neg_ℤ (pos 1000) ∷ neg_ℤ (pos 999) ∷ neg_ℤ (pos 7) ∷ [];
      replayed = neg_ℤ (pos 1000) ∷ neg_ℤ (pos 999) ∷ neg_ℤ (pos 7) ∷ [];
    })
    × (image_shown of_temperatures
    ≡ record {
      halves = neg_ℤ half ∷ half ∷ half ∷ neg_ℤ (fine 998 50) ∷ [];
      answers = answers_with (neg_ℤ (pos 1000)) (neg_ℤ (pos 999));
      four = neg_ℤ (pos 999) ∷ neg_ℤ (fine 750 0) ∷ neg_ℤ (pos 500) ∷ neg_ℤ (fine 3 0) ∷ [];
      law = (0, neg_ℤ (pos 999));
      played = neg_ℤ (pos 1000) ∷ neg_ℤ (pos 999) ∷ neg_ℤ (pos 7) ∷ [];
      replayed = neg_ℤ (pos 1000) ∷ neg_ℤ (pos 999) ∷ neg_ℤ (pos 7) ∷ [];
    })
unfolding loop_made_of rounded rows_of in_table fresh_window taken mean_at window_ok valid lesser greater limited ramped filtered derivative sensed_of clamped back_calculated integrated acted_of sample_of step_of refusal_of law_of window memory_ok remembered is_last found_in found_by served_of delivered_of after each code_of first_code play_refusal wrote_of numbered replay_refusal written_of
mirrored = (refl, refl, refl)

-- ---- "no value being the least of its type"

-- the first mirror leaves temperatures, so a sample's value may be the least
pub least_left : Opposed of_action (Sample least_value)
least_left = record { left = λ _. refl }

-- but there is no opposite put of the least
pub least_put : (k : Mirror) → Opposed k (Put least_value) → ⊥
least_put k o = least_turned least_value o.left refl
