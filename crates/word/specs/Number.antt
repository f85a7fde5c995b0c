-- Request 14: "numbers have the settings' decimal form but up to 10 digits, within 32 bits, signed for value, second and
-- output".
use Rattle.std.specs.Prelude.{ℕ, cond, List, ltb, ℤ, Option, Some, None}
use Rattle.word.specs.Decimal.{long_digits, is_size, size_of, signed_of}

-- the highest number of 32 bits without a sign
abbrev pub highest : ℕ
highest = 4294967295

unfoldable pub number_in : List ℕ → Option ℕ
number_in w = cond (is_size long_digits w) (cond (ltb highest (size_of w)) None (Some (size_of w))) None

abbrev pub signed_in : List ℕ → Option ℤ
signed_in w = signed_of long_digits w
