-- 01, "Settings text": "A value is an optional minus and 1 to 7 digits, no leading zero except the number 0 itself, no
-- minus zero." Texts are lists of bytes.
use Rattle.std.specs.Prelude.{ℕ, zero, suc, ◌+◌, ◌-◌, ◌*◌, ◌/◌, ◌%◌, Bool, true, cond, not, ◌&&◌, List, [], ◌∷◌, ◌++◌, ltb, leb, eqb, ℤ, pos, negsuc, neg_ℤ, length, get_or, drop, replicate, Option, Some, None}
use Rattle.word.specs.declared.decimal.Shown.{Shown}

-- ---- a decimal that is read

-- a digit: `0` (48) to `9` (57)
abbrev pub is_digit : ℕ → Bool
is_digit b = leb 48 b && leb b 57

abbrev pub all_digits : List ℕ → Bool
all_digits [] = true
all_digits (b ∷ w) = is_digit b && all_digits w

-- a "leading zero": a 0 with more after it, so not "the number 0 itself"
abbrev pub leading_zero : List ℕ → Bool
leading_zero w = eqb (get_or w 0 0) 48 && ltb 1 (length w)

-- "1 to 7 digits, no leading zero except the number 0 itself", with most in the place of 7
unfoldable pub is_size : ℕ → List ℕ → Bool
is_size most w = (leb 1 (length w) && leb (length w) most) && (all_digits w && not (leading_zero w))

-- "1 to 7 digits"
abbrev pub most_digits : ℕ
most_digits = 7

-- a journal's "numbers have the settings' decimal form but up to 10 digits"
abbrev pub long_digits : ℕ
long_digits = 10

-- "an optional minus" (45)
unfoldable pub has_minus : List ℕ → Bool
has_minus w = eqb (get_or w 0 0) 45

-- what stands after the minus, if there is one
unfoldable pub unsigned : List ℕ → List ℕ
unsigned w = cond (has_minus w) (drop 1 w) w

-- the number that digits make, where n is what the digits before them make
abbrev pub size_from : ℕ → List ℕ → ℕ
size_from n [] = n
size_from n (b ∷ w) = size_from (n * 10 + (b - 48)) w

unfoldable pub size_of : List ℕ → ℕ
size_of w = size_from 0 w

-- "minus zero"
abbrev pub minus_zero : List ℕ → Bool
minus_zero w = has_minus w && eqb (size_of (unsigned w)) 0

-- whether a word has the form of a value
unfoldable pub is_decimal : List ℕ → Bool
is_decimal w = is_size most_digits (unsigned w) && not (minus_zero w)

-- the number that such a word stands for
unfoldable pub number_of : List ℕ → ℤ
number_of w = cond (has_minus w) (neg_ℤ (pos (size_of (unsigned w)))) (pos (size_of (unsigned w)))

-- what reading a word answers
abbrev pub decimal_of : List ℕ → Option ℤ
decimal_of w = cond (is_decimal w) (Some (number_of w)) None

-- ---- a decimal of up to so many digits, "within 32 bits"

-- the lowest number is -2,147,483,648, and the highest one less than that without its sign
abbrev pub lowest : ℕ
lowest = 2147483648

-- with a minus: "no minus zero"
abbrev pub negative_in : ℕ → Option ℤ
negative_in n = cond (eqb n 0) None (cond (ltb lowest n) None (Some (neg_ℤ (pos n))))

abbrev pub positive_in : ℕ → Option ℤ
positive_in n = cond (leb lowest n) None (Some (pos n))

-- "an optional minus", then digits
unfoldable pub signed_of : ℕ → List ℕ → Option ℤ
signed_of most w =
    cond (is_size most (unsigned w))
    (cond (has_minus w) (negative_in (size_of (unsigned w))) (positive_in (size_of (unsigned w))))
    None

-- ---- a decimal that is written

-- a number of 32 bits has at most eleven bytes: a minus and ten digits
abbrev pub decimal_room : ℕ
decimal_room = 11

-- the digits of n, the most significant first, none where n is 0; f bounds their number
abbrev pub digits : ℕ → ℕ → List ℕ
digits zero n = []
digits (suc f) n =
    let several = digits f (n / 10) ++ ((48 + n % 10) ∷ []) in
    cond (eqb n 0) [] several

-- a number as it is shown: the digits of its tenth part, of which there are never more than n, then its last digit
unfoldable pub shown : ℕ → List ℕ
shown n = digits n (n / 10) ++ ((48 + n % 10) ∷ [])

-- what stands for a number in a text
abbrev pub decimal : ℤ → List ℕ
decimal (pos n) = shown n
decimal (negsuc n) = 45 ∷ shown (suc n)

-- a text at the end of so many bytes, and the place of its first byte
abbrev pub padded : List ℕ → Shown
padded w = record { bytes = replicate (decimal_room - length w) 0 ++ w; from = decimal_room - length w }
