-- Where a word of a text ends, and what it begins with.
use Rattle.std.specs.Prelude.{ℕ, suc, Bool, true, false, cond, ◌&&◌, List, [], ◌∷◌, eqb}

-- the place of the first such byte, or the length where there is none
abbrev pub end_at : ℕ → List ℕ → ℕ
end_at byte [] = 0
end_at byte (b ∷ s) = cond (eqb b byte) 0 (suc (end_at byte s))

-- "one line feed (byte 10)"
abbrev pub feed : ℕ
feed = 10

-- whether a line begins with a key
abbrev pub begins : List ℕ → List ℕ → Bool
begins [] l = true
begins (k ∷ ks) [] = false
begins (k ∷ ks) (b ∷ l) = eqb b k && begins ks l
