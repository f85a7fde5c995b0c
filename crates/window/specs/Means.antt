-- 02, request 7: samples taken one after the other.
use Rattle.std.specs.Prelude.{ℕ, zero, suc, cond, List, ◌∷◌, ◌++◌, eqb, ltb, ℤ, pos, length, drop, get_or}
use Rattle.command.specs.Sequence.{after, each}
use Rattle.temperature.specs.declared.Guard.{Guard}
use Rattle.temperature.specs.Temperature.{first_code}
use Rattle.window.specs.declared.Window.{Window}
use Rattle.window.specs.Window.{taken, mean_at}

-- the window after them
abbrev pub after_all : Window → List ℤ → Window
after_all w samples = after taken w samples

-- the mean after each
abbrev pub means_of : ℕ → Window → List ℤ → List ℤ
means_of m w samples = each taken (mean_at m) w samples

-- "the first n places hold the outputs, every later place keeps its number"
abbrev pub front_filled : List ℤ → List ℤ → List ℤ
front_filled outputs out = outputs ++ drop (length outputs) out

-- the means in the front of a list. It stays as it is where a sample is bad, or where it has no room for them
unfoldable pub means_into : ℕ → Window → Guard → List ℤ → List ℤ → List ℤ
means_into m w g samples out =
    cond (eqb (first_code g samples) 0) (cond (ltb (length out) (length samples)) out (front_filled (means_of m w samples) out)) out

-- every temperature after n of the samples, newest first; those in old came before them
unfoldable pub past_of : List ℤ → List ℤ → ℕ → List ℤ
past_of old samples zero = old
past_of old samples (suc n) = get_or samples n (pos 0) ∷ past_of old samples n
