-- The text of 01's settings C, and settings whose text is the longest of its form.
use Prim.Native.Nat.{ℕ}
use mathlib.Core.Bool.{cond}
use mathlib.Core.Path.{◌≡◌, refl, ap}
use mathlib.Core.List.{List, ◌++◌}
use lib.Dec.{eqb}
use lib.IntN.{pos, negsuc}
use lib.ListN.{length, replicate}
use Rattle.settings.specs.declared.Gains.{Gains}
use Rattle.settings.specs.declared.Settings.{Settings}
use Rattle.whole.specs.Words.{bytes}
use Rattle.settings.specs.Table.{gain, share, window, farthest, firsts, sets, short_sets, rows_of}
use Rattle.settings.specs.Settings.{in_table, settings_refusal}
use Rattle.settings.specs.SettingsC.{gain_set, settings_c}
use Rattle.word.specs.Decimal.{shown}
use Rattle.writer.specs.Lines.{Headed, both_lines, mean_alone, neither_line, Gained, full, short, text_for, longest_for}
use Rattle.text.specs.Reader.{Reading, read_text}
use Rattle.text.proofs.Forms.{said_of, form_read}

abbrev pub text_c : List ℕ
text_c =
    bytes "action=0\nlo=0\nhi=1000\nout=100\nsp=500\nrate=50\n"
    ++ bytes "kp0=65536\nki0=16384\nkd0=0\nalpha0=65536\nkt0=0\n"
    ++ bytes "kp1=131072\nki1=16384\nkd1=65536\nalpha1=32768\nkt1=0\n"
    ++ bytes "kp2=65536\nki2=16384\nkd2=0\nalpha2=65536\nkt2=32768\n"
    ++ bytes "kp3=32768\nki3=0\nkd3=0\nalpha3=65536\nkt3=0\n"

pub c_written : text_for firsts short_sets settings_c ≡ text_c
unfolding text_for rows_of shown
c_written = refl

c_right : settings_refusal settings_c ≡ 0
unfolding in_table rows_of
c_right = refl

pub c_read : read_text text_c ≡ record { code = 0; line = 0; settings = settings_c }
c_read = rw (← c_written) (form_read firsts short_sets settings_c neither_line short (said_of firsts short_sets settings_c neither_line short refl c_right (λ _. refl) (λ _. refl) (λ _. refl)))

-- each value at its widest, which of jump is also what a text without its line has; a text without mean has 1
abbrev widest : Gains
widest = gain_set gain gain gain share share

abbrev pub longest : ℕ → Settings
longest h = record {
  action = pos 1;
  lo = negsuc 999999;
  hi = pos 1000000;
  out = negsuc 999999;
  sp = negsuc 999999;
  rate = pos 2000000;
  mean = cond (eqb h firsts) (pos 1) (pos window);
  jump = pos farthest;
  gains = replicate sets widest;
}

longest_right : (h : ℕ) → Headed h → settings_refusal (longest h) ≡ 0
unfolding in_table rows_of
longest_right h both_lines = refl
longest_right h mean_alone = refl
longest_right h neither_line = refl

pub longest_written : (h n : ℕ) → Headed h → Gained n → length (text_for h n (longest h)) ≡ longest_for h n
unfolding text_for rows_of shown
longest_written h n both_lines full = refl
longest_written h n both_lines short = refl
longest_written h n mean_alone full = refl
longest_written h n mean_alone short = refl
longest_written h n neither_line full = refl
longest_written h n neither_line short = refl

pub longest_read : (h n : ℕ) → Headed h → Gained n → (read_text (text_for h n (longest h))).code ≡ 0
longest_read h n a b =
    let t = said_of h n (longest h) a b refl (longest_right h a) (λ p. rw p) (λ _. refl) (λ _. refl) in
    ap (λ (d : Reading). d.code) (form_read h n (longest h) a b t)
