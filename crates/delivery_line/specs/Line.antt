-- A delivery is a line `number=N command=WORD value=V second=S`, "in that order, one space between", "unused values 0".
use Rattle.std.specs.Prelude.{ℕ, ◌+◌, Bool, cond, ◌&&◌, List, [], eqb, ℤ, pos, length, take, drop, Option, Some, None}
use Rattle.whole.specs.Numbers.{eq_z}
use Rattle.whole.specs.Words.{bytes}
use Rattle.command.specs.declared.Command.TheVariants.{Sample, Hold, Put, Automatic, Target, Set}
use Rattle.word.specs.Number.{number_in, signed_in}
use Rattle.word.specs.End.{end_at, begins}
use Rattle.command.specs.declared.Command.{Command}
use Rattle.delivery_line.specs.declared.Delivery.{Delivery}

-- ---- words, "one space between" (byte 32)

-- what stands before the first space
unfoldable pub word_in : List ℕ → List ℕ
word_in s = take (end_at 32 s) s

-- what stands after it
unfoldable pub rest_in : List ℕ → List ℕ
rest_in s = drop (end_at 32 s + 1) s

-- what stands after a word's key; nothing, which no field has, where the word has another key
unfoldable pub field_in : List ℕ → List ℕ → List ℕ
field_in key w = cond (begins key w) (drop (length key) w) []

-- ---- "Commands are the words sample, hold, put, automatic, target and set"

abbrev pub same_word : List ℕ → List ℕ → Bool
same_word key w = begins key w && eqb (length w) (length key)

abbrev pub is_target : List ℕ → Bool
is_target w = same_word (bytes "target") w

abbrev pub is_sample : List ℕ → Bool
is_sample w = same_word (bytes "sample") w

abbrev pub is_put : List ℕ → Bool
is_put w = same_word (bytes "put") w

abbrev pub is_set : List ℕ → Bool
is_set w = same_word (bytes "set") w

abbrev pub is_hold : List ℕ → Bool
is_hold w = same_word (bytes "hold") w

abbrev pub is_automatic : List ℕ → Bool
is_automatic w = same_word (bytes "automatic") w

-- "unused values 0": only a target has a second value, and hold and automatic have none
unfoldable pub command_of : List ℕ → ℤ → ℤ → Option Command
command_of w value second =
    cond (is_target w) (Some (Target value second))
    (cond (eq_z second (pos 0))
    (cond (is_sample w) (Some (Sample value))
    (cond (is_put w) (Some (Put value))
    (cond (is_set w) (Some (Set value))
    (cond (eq_z value (pos 0))
    (cond (is_hold w) (Some Hold)
    (cond (is_automatic w) (Some Automatic) None))
    None))))
    None)

abbrev pub asking : List ℕ → Option ℤ → Option ℤ → Option Command
asking w None second = None
asking w (Some v) None = None
asking w (Some v) (Some s) = command_of w v s

abbrev pub delivering : Option ℕ → Option Command → Option Delivery
delivering None a = None
delivering (Some n) None = None
delivering (Some n) (Some c) = Some (record { number = n; command = c })

-- ---- the line

abbrev pub number_key : List ℕ
number_key = bytes "number="

abbrev pub command_key : List ℕ
command_key = bytes "command="

abbrev pub value_key : List ℕ
value_key = bytes "value="

abbrev pub second_key : List ℕ
second_key = bytes "second="

unfoldable pub delivery_of : List ℕ → Option Delivery
delivery_of s =
    delivering (number_in (field_in number_key (word_in s)))
    (asking (field_in command_key (word_in (rest_in s))) (signed_in (field_in value_key (word_in (rest_in (rest_in s)))))
    (signed_in (field_in second_key (rest_in (rest_in (rest_in s))))))
