use Prim.Native.Nat.{ℕ}
use mathlib.Core.Path.{◌≡◌, refl, sym, ap, ap₂, ◌∙◌}
use mathlib.Core.List.{List}
use borrow.Author.Rules.{rules}
use lib.IntN.{ℤ}
use mir.Syntax.{w32}
use mir.Val.{SFits}
use mir.Facts.{to_z-of_z}
use Rattle.std.proofs.Common.{Option, Some, None}
use Rattle.command.specs.declared.Command.{Command}
use Rattle.word.specs.Number.{number_in, signed_in}
use Rattle.delivery_line.specs.Line.{word_in, rest_in, field_in, command_of, asking, delivering, number_key, command_key, value_key, second_key, delivery_of}
use Rattle.delivery_line.proofs.parse.Goals as goal
use Rattle.delivery_line.proofs.parse.Goals.{After-read_unsigned, After-read_signed, After-read_signed-2, After-command}

-- ---- the line, by what its four words are

module _ (s : List ℕ) where
  abbrev number : Option ℕ
  number = number_in (field_in number_key (word_in s))

  abbrev word : List ℕ
  word = field_in command_key (word_in (rest_in s))

  abbrev value : Option ℤ
  value = signed_in (field_in value_key (word_in (rest_in (rest_in s))))

  abbrev second : Option ℤ
  second = signed_in (field_in second_key (rest_in (rest_in (rest_in s))))

  no_command : (n : Option ℕ) → delivering n None ≡ None
  no_command None = refl
  no_command (Some n) = refl

  one_value : (w : List ℕ) (v : Option ℤ) → asking w v None ≡ None
  one_value w None = refl
  one_value w (Some v) = refl

  without_number : number ≡ None → delivery_of s ≡ None
  unfolding delivery_of
  without_number e = ap (λ (n : Option ℕ). delivering n (asking word value second)) e

  without_value : value ≡ None → delivery_of s ≡ None
  unfolding delivery_of
  without_value e = ap (λ (v : Option ℤ). delivering number (asking word v second)) e ∙ no_command number

  without_second : second ≡ None → delivery_of s ≡ None
  unfolding delivery_of
  without_second e = ap (λ (z : Option ℤ). delivering number (asking word value z)) e ∙ ap (delivering number) (one_value word value) ∙ no_command number

  with_all : (n : Option ℕ) (v z : ℤ) (c : Option Command) → number ≡ n → value ≡ Some v → second ≡ Some z → command_of word v z ≡ c → delivery_of s ≡ delivering n c
  unfolding delivery_of
  with_all n v z c e f g h = ap₂ delivering e (ap₂ (asking word) f g ∙ h)

-- ---- the code's words

number_told : (c : After-read_unsigned) → c.read_unsigned.result ≡ number c.args.line.now
number_told c = c.read_unsigned.ensures ∙ ap number_in (c.field.ensures ∙ ap (field_in number_key) c.cut.ensures.front)

value_told : (c : After-read_signed) → c.read_signed.result ≡ value c.args.line.now
value_told c =
    let back = c.cut-2.ensures.back ∙ ap rest_in c.cut.ensures.back in
    c.read_signed.ensures ∙ ap signed_in (c.field-2.ensures ∙ ap (field_in value_key) (c.cut-3.ensures.front ∙ ap word_in back))

second_told : (c : After-read_signed-2) → c.read_signed-2.result ≡ second c.args.line.now
second_told c =
    let back = c.cut-2.ensures.back ∙ ap rest_in c.cut.ensures.back in
    c.read_signed-2.ensures ∙ ap signed_in (c.field-3.ensures ∙ ap (field_in second_key) (c.cut-3.ensures.back ∙ ap rest_in back))

command_told : (c : After-command) → c.command.result ≡ command_of (word c.args.line.now) c.in_ok-value.value c.in_ok-second.second
command_told c =
    let f : SFits w32 c.in_ok-value.value = search rules in
    let g : SFits w32 c.in_ok-second.second = search rules in
    let w = c.field-4.ensures ∙ ap (field_in command_key) (c.cut-2.ensures.front ∙ ap word_in c.cut.ensures.back) in
    rw (to_z-of_z f, to_z-of_z g) at c.command.ensures ∙ ap (λ (l : List ℕ). command_of l c.in_ok-value.value c.in_ok-second.second) w

pub returns-in_err-number : goal.returns-in_err-number
returns-in_err-number c =
    c.from_residual.ensures ∙ sym (without_number c.args.line.now (sym (number_told (goal.at.returns-in_err-number c).After-read_unsigned) ∙ c.in_err-number.was))

pub returns-in_err-value : goal.returns-in_err-value
returns-in_err-value c =
    c.from_residual-in_err-value.ensures ∙ sym (without_value c.args.line.now (sym (value_told (goal.at.returns-in_err-value c).After-read_signed) ∙ c.in_err-value.was))

pub returns-in_err-second : goal.returns-in_err-second
returns-in_err-second c =
    c.from_residual-in_err-second.ensures ∙ sym (without_second c.args.line.now (sym (second_told (goal.at.returns-in_err-second c).After-read_signed-2) ∙ c.in_err-second.was))

pub returns-in_err-command : goal.returns-in_err-command
returns-in_err-command c =
    let at = goal.at.returns-in_err-command c in
    c.from_residual-in_err-command.ensures
    ∙ sym
    (with_all c.args.line.now (Some c.in_ok-number.number) c.in_ok-value.value c.in_ok-second.second None
    (sym (number_told at.After-read_unsigned) ∙ c.in_ok-number.was)
    (sym (value_told at.After-read_signed) ∙ c.in_ok-value.was)
    (sym (second_told at.After-read_signed-2) ∙ c.in_ok-second.was)
    (sym (command_told at.After-command) ∙ c.in_err-command.was))

pub returns : goal.returns
returns c =
    let at = goal.at.returns c in
    sym
    (with_all c.args.line.now (Some c.in_ok-number.number) c.in_ok-value.value c.in_ok-second.second (Some c.in_ok-command.command)
    (sym (number_told at.After-read_unsigned) ∙ c.in_ok-number.was)
    (sym (value_told at.After-read_signed) ∙ c.in_ok-value.was)
    (sym (second_told at.After-read_signed-2) ∙ c.in_ok-second.was)
    (sym (command_told at.After-command) ∙ c.in_ok-command.was))
