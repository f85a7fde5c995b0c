-- 01, "Settings text": what the writer answers, and what it leaves in the buffer.
use Rattle.std.specs.Prelude.{ℕ, cond, List, ◌++◌, ltb, eqb, length, drop, Result, Ok, Err}
use Rattle.settings.specs.declared.Settings.{Settings}
use Rattle.settings.specs.Settings.{settings_refusal}
use Rattle.refusal.specs.declared.Refusal.{Refusal}
use Rattle.refusal.specs.Refusal.{code_for}
use Rattle.writer.specs.Lines.{text_of}

-- what the writer answers: a code, and the length beside it
pub record Written : Type 0 where
  pub code : ℕ
  pub len : ℕ

-- what the code's result tells of it
abbrev pub written_told : Result ℕ Refusal → Written
written_told (Ok n) = record { code = 0; len = n }
written_told (Err r) = record { code = code_for r; len = 0 }

-- "The writer tests 11, 16, 18", 0 where none is due; the buffer has room bytes
unfoldable pub write_code : Settings → ℕ → ℕ
write_code s room = cond (eqb (settings_refusal s) 0) (cond (ltb room (length (text_of s))) 18 0) (settings_refusal s)

-- "answers the length, 0 on refusal"
unfoldable pub written_of : Settings → ℕ → Written
written_of s room = record { code = write_code s room; len = cond (eqb (write_code s room) 0) (length (text_of s)) 0 }

-- "writes from the buffer's first byte, leaves bytes after the text"; on a refusal it leaves all of them
unfoldable pub buffer_after : Settings → List ℕ → List ℕ
buffer_after s buffer = cond (eqb (write_code s (length buffer)) 0) (text_of s ++ drop (length (text_of s)) buffer) buffer
