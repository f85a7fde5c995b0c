-- 02, REQUEST 3. "Flip only the action, the limits (to -hi..-lo), out and puts: every output and the integral change sign, w and
-- y do not. Keep the action and flip limits, out, puts, temperatures, sp and targets: outputs, integral, w and y all change sign."
-- What is flipped is written in specs/Mirror.antt, for either mirror k; each statement is of both, and of any two records that
-- mirror each other, `s` and `flip_numbered k s`, also where they break the state rules.
use Prim.Native.Nat.{ℕ}
use mathlib.Core.Path.{◌≡◌, ap}
use mathlib.Core.List.{List, map}
use borrow.Author.Tests.{eqb-false}
use lib.Dec.{eqb}
use lib.IntN.{ℤ, neg_ℤ}
use Rattle.whole.proofs.Truth.{by_test}
use Rattle.settings.specs.declared.Settings.{Settings}
use Rattle.settings.specs.Settings.{settings_refusal}
use Rattle.command.specs.declared.Command.{Command}
use Rattle.command.specs.Sequence.{after, each}
use Rattle.command.proofs.Sequences.{after_through, each_through}
use Rattle.record.specs.declared.Loop.{Loop}
use Rattle.record.specs.Record.{made_of as loop_made_of}
use Rattle.pid.specs.Law.{Obeyed, law_of}
use Rattle.pid.specs.Play.{played_of, wrote_of}
use Rattle.memory.specs.Memory.{window}
use Rattle.memory.specs.Walk.{Delivery}
use Rattle.delivery.specs.declared.numbered.Numbered.{Numbered}
use Rattle.delivery.specs.Numbered.{made_of, valid_of, delivered_of}
use Rattle.delivery.specs.Demand3.{handed_back, answered}
use Rattle.delivery.specs.Replay.{replayed_of, written_of}
use Rattle.mirror.specs.Mirror.{Mirror, of_action, of_temperatures, flip_temperature, flip_settings, flip_command, flip_loop, flip_obeyed, flip_played, flip_numbered, flip_delivery, flip_answer, flip_delivered, flip_replayed, Held, Opposed}
use Rattle.mirror.proofs.Settings.{settings_mirror}
use Rattle.mirror.proofs.Loops.{fresh_mirror, law_mirror}
use Rattle.mirror.proofs.Plays.{played_mirror, wrote_mirror}
use Rattle.mirror.proofs.Twice.{numbered_twice}
use Rattle.mirror.proofs.Deliveries.{valid_of_mirror, delivered_mirror, after_mirror, answers_mirror}
use Rattle.mirror.proofs.Replays.{replayed_mirror, written_mirror}
use Rattle.mirror.proofs.Held.{held_mirror}

-- each of two records that mirror each other is the image of the other
pub twice : (k : Mirror) (s : Numbered) → flip_numbered k (flip_numbered k s) ≡ s
twice = numbered_twice

-- ---- settings and the loops made from them

-- mirrored settings are refused alike, so accepted exactly when the others are
pub made_code : (k : Mirror) (s : Settings) → (made_of (flip_settings k s)).code ≡ (made_of s).code
unfolding loop_made_of
made_code k s = rw (settings_mirror k s) (by_test (eqb (settings_refusal s) 0) (λ e. rw e) (λ e. rw e))

-- and the loops made from accepted ones mirror each other
pub made_state : (k : Mirror) (s : Settings) → (made_of s).code ≡ 0 → (made_of (flip_settings k s)).state ≡ flip_numbered k (made_of s).state
unfolding loop_made_of window
made_state k s z =
    by_test (eqb (settings_refusal s) 0)
    (λ e. rw (settings_mirror k s, e, fresh_mirror k s))
    (λ e. absurd (eqb-false (settings_refusal s) 0 e (rw e at z)))

-- a record keeps the state rules exactly when its mirror image does
pub rules : (k : Mirror) (s : Numbered) → valid_of (flip_numbered k s) ≡ valid_of s
rules = valid_of_mirror

-- ---- the plain law

-- one command: the same code, and the records handed back mirror each other
pub law : (k : Mirror) (l : Loop) (c : Command) → law_of (flip_loop k l) (flip_command k c) ≡ flip_obeyed k (law_of l c)
law = law_mirror

abbrev obeying : Loop → Command → Loop
obeying l c = (law_of l c).state

obeying_mirror : (k : Mirror) (l : Loop) (c : Command) → obeying (flip_loop k l) (flip_command k c) ≡ flip_loop k (obeying l c)
obeying_mirror k l c = ap (λ (r : Obeyed). r.state) (law_mirror k l c)

-- any list of commands: the code and the record after each, and the end record
pub law_answers : (k : Mirror) (l : Loop) (cs : List Command) →
    each obeying law_of (flip_loop k l) (map (flip_command k) cs) ≡ map (flip_obeyed k) (each obeying law_of l cs)
law_answers k l cs =
    each_through (flip_loop k) (flip_command k) obeying obeying (obeying_mirror k) (flip_obeyed k) law_of law_of (law_mirror k) l cs

pub law_end : (k : Mirror) (l : Loop) (cs : List Command) → after obeying (flip_loop k l) (map (flip_command k) cs) ≡ flip_loop k (after obeying l cs)
law_end k l cs = after_through (flip_loop k) (flip_command k) obeying obeying (obeying_mirror k) l cs

-- any list of samples, with a list whose front takes the outputs: the same code and place
pub play : (k : Mirror) (l : Loop) (samples : List ℤ) (room : ℕ) →
    played_of (flip_loop k l) (map (flip_temperature k) samples) room ≡ flip_played k (played_of l samples room)
play = played_mirror

pub play_written : (k : Mirror) (l : Loop) (samples out : List ℤ) →
    wrote_of (flip_loop k l) (map (flip_temperature k) samples) (map neg_ℤ out) ≡ map neg_ℤ (wrote_of l samples out)
play_written = wrote_mirror

-- ---- numbered delivery

pub delivery : (k : Mirror) (s : Numbered) (n : ℕ) (c : Command) → delivered_of (flip_numbered k s) n (flip_command k c) ≡ flip_delivered k (delivered_of s n c)
delivery = delivered_mirror

-- any list of deliveries: the same codes, the same numbers, outputs of the other sign
pub answers : (k : Mirror) (s : Numbered) (ds : List (Delivery Command)) →
    each handed_back answered (flip_numbered k s) (map (flip_delivery k) ds) ≡ map flip_answer (each handed_back answered s ds)
answers = answers_mirror

-- and the end records mirror each other
pub end_record : (k : Mirror) (s : Numbered) (ds : List (Delivery Command)) →
    after handed_back (flip_numbered k s) (map (flip_delivery k) ds) ≡ flip_numbered k (after handed_back s ds)
end_record = after_mirror

-- ---- the two sentences, of the loop after any list of deliveries and of its mirror image after the mirrored ones

abbrev loop_after : Numbered → List (Delivery Command) → Loop
loop_after s ds = (after handed_back s ds).state

abbrev image_after : Mirror → Numbered → List (Delivery Command) → Loop
image_after k s ds = loop_after (flip_numbered k s) (map (flip_delivery k) ds)

image_is : (k : Mirror) (s : Numbered) (ds : List (Delivery Command)) → image_after k s ds ≡ flip_loop k (loop_after s ds)
image_is k s ds = ap (λ (t : Numbered). t.state) (after_mirror k s ds)

-- "every output and the integral change sign, w and y do not"
pub action_flipped : (s : Numbered) (ds : List (Delivery Command)) →
    ((image_after of_action s ds).u ≡ neg_ℤ (loop_after s ds).u)
    × ((image_after of_action s ds).integral ≡ neg_ℤ (loop_after s ds).integral)
    × ((image_after of_action s ds).w ≡ (loop_after s ds).w)
    × ((image_after of_action s ds).y ≡ (loop_after s ds).y)
action_flipped s ds =
    let e = image_is of_action s ds in
    (ap (λ (l : Loop). l.u) e, ap (λ (l : Loop). l.integral) e, ap (λ (l : Loop). l.w) e, ap (λ (l : Loop). l.y) e)

-- "outputs, integral, w and y all change sign"
pub temperatures_flipped : (s : Numbered) (ds : List (Delivery Command)) →
    ((image_after of_temperatures s ds).u ≡ neg_ℤ (loop_after s ds).u)
    × ((image_after of_temperatures s ds).integral ≡ neg_ℤ (loop_after s ds).integral)
    × ((image_after of_temperatures s ds).w ≡ neg_ℤ (loop_after s ds).w)
    × ((image_after of_temperatures s ds).y ≡ neg_ℤ (loop_after s ds).y)
temperatures_flipped s ds =
    let e = image_is of_temperatures s ds in
    (ap (λ (l : Loop). l.u) e, ap (λ (l : Loop). l.integral) e, ap (λ (l : Loop). l.w) e, ap (λ (l : Loop). l.y) e)

-- ---- a replay

-- the same code, place and count
pub replay : (k : Mirror) (s : Numbered) (first : ℕ) (samples : List ℤ) (room : ℕ) →
    replayed_of (flip_numbered k s) first (map (flip_temperature k) samples) room ≡ flip_replayed k (replayed_of s first samples room)
replay = replayed_mirror

-- and the output lists, mirrored before, are mirrored after
pub replay_written : (k : Mirror) (s : Numbered) (first : ℕ) (samples out : List ℤ) →
    written_of (flip_numbered k s) first (map (flip_temperature k) samples) (map neg_ℤ out) ≡ map neg_ℤ (written_of s first samples out)
replay_written = written_mirror

-- ---- "no value being the least of its type"

-- the statements above are of whole numbers and assume nothing. This one says when there is such a machine: a command's mirror
-- image is one that the machine can hold, if no flipped value of it is the least of its type
pub held : (k : Mirror) (c : Command) → Held c → Opposed k c → Held (flip_command k c)
held = held_mirror
