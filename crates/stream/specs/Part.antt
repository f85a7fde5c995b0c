-- The bytes that have come of a line.
use Rattle.std.specs.Prelude.{ℕ, ◌+◌, List, length, take, set, replicate}
use Rattle.std.proofs.lemmas.List.Edits.{sets}
use Rattle.stream.specs.declared.part.Part.{Part}

-- the room for a line of the file, which no well-formed line passes
abbrev pub line_most : ℕ
line_most = 80

-- the room for a line of which nothing has come yet
abbrev pub no_bytes : List ℕ
no_bytes = replicate line_most 0

abbrev pub no_part : Part
no_part = record { bytes = no_bytes; len = 0 }

-- the bytes that have come
abbrev pub held : Part → List ℕ
held p = take p.len p.bytes

-- and one more, or several
abbrev pub with_byte : Part → ℕ → Part
with_byte p b = record { bytes = set p.bytes p.len b; len = p.len + 1 }

abbrev pub with_more : Part → List ℕ → Part
with_more p w = record { bytes = sets p.bytes p.len w; len = p.len + length w }
