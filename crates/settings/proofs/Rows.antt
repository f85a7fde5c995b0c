-- The rows of the text's lines and the values of settings, by their places.
use Prim.Native.Nat.{ℕ, zero, suc, ◌+◌, ◌-◌, ◌*◌, ◌/◌, ◌%◌, ◌<◌, ◌≤◌}
use mathlib.Core.Path.{◌≡◌, refl, sym, ap, ◌∙◌}
use mathlib.Core.List.{List, [], ◌∷◌, ◌++◌, append_assoc}
use native.Mathlib.Nat.{zero-add, add_assoc}
use native.Mathlib.Omega.{arith}
use borrow.Author.Tests.{leb-true}
use lib.Dec.{leb}
use lib.IntN.{ℤ, pos}
use lib.ListN.{length, get_or, length-append, get_or-append, get_or-map}
use lib.Seq.{get_or-append-add, sets as puts}
use mir.Syntax.{w32}
use mir.Val.{SFits, to_z, of_z}
use mir.Facts.{to_z-of_z}
use Rattle.settings.specs.declared.Gains.{Gains}
use Rattle.settings.specs.declared.Settings.{Settings}
use Rattle.settings.specs.declared.table.Row.{Row}
use Rattle.settings.specs.Table.{longest_key, head_rows, gain_rows, table, sets, heads, keys, lines_for, lines, numbered, set_rows, each, numbers_from, rows_of, rows, no_row}
use Rattle.settings.specs.Settings.{no_gains, gains_at, gains_from, sets_from, gain_values, head_values, values_of}
use Rattle.whole.specs.Words.{bytes}
use Rattle.whole.proofs.Lists.{get_d_any}
use Rattle.word.specs.Decimal.{shown}
use Rattle.word.proofs.Stores.{sets_append}
use Rattle.settings.proofs.Lists.{each_at, each_long, each_append, numbers_long, numbers_append, numbers_at, all_at}

-- ---- rows

pub rows_long : (n : ℕ) → length (rows_of n) ≡ lines_for heads n
unfolding rows_of
rows_long n =
    let h = each_long keys set_rows (numbers_from 0 n) (λ _. refl) in
    simp length-append (omega (arith, h, numbers_long 0 n))

-- the rows of the first gain sets, and those of the sets after them
rows_split : (m n : ℕ) → rows_of (m + n) ≡ rows_of m ++ each set_rows (numbers_from m n)
unfolding rows_of
rows_split m n =
    ap (λ (ks : List ℕ). head_rows ++ each set_rows ks) (numbers_append 0 m n ∙ ap (λ (k : ℕ). numbers_from 0 m ++ numbers_from k n) (zero-add m))
    ∙ ap (λ (rs : List Row). head_rows ++ rs) (each_append set_rows (numbers_from 0 m) (numbers_from m n))
    ∙ sym (append_assoc head_rows (each set_rows (numbers_from 0 m)) (each set_rows (numbers_from m n)))

pub rows_parts : (n : ℕ) → n ≤ sets → rows ≡ rows_of n ++ each set_rows (numbers_from n (sets - n))
rows_parts n h = let p : sets ≡ n + (sets - n) = omega arith in ap rows_of p ∙ rows_split n (sets - n)

pub row_head : (i : ℕ) → i < heads → get_or table i no_row ≡ get_or rows i no_row
unfolding table rows_of
row_head i h =
    get_or-append head_rows gain_rows no_row i h ∙ sym (get_or-append head_rows (each set_rows (numbers_from 0 sets)) no_row i h)

numbered_at : (k j : ℕ) → j < keys → numbered (get_or gain_rows j no_row) k ≡ get_or (set_rows k) j no_row
numbered_at k j h =
    sym (get_or-map (λ r. numbered r k) gain_rows j no_row) ∙ get_d_any (set_rows k) j (numbered no_row k) no_row h

pub row_set : (i : ℕ) → heads ≤ i → i < lines → numbered (get_or table (heads + (i - heads) % keys) no_row) ((i - heads) / keys) ≡ get_or rows i no_row
unfolding table rows_of
row_set i l h =
    let k = (i - heads) / keys in
    let j = (i - heads) % keys in
    let e : heads + (keys * ((i - heads) / keys) + (i - heads) % keys) ≡ i = omega arith in
    ap (λ (r : Row). numbered r k) (get_or-append-add head_rows gain_rows j no_row)
    ∙ numbered_at k j (omega arith)
    ∙ ap (λ (n : ℕ). get_or (set_rows n) j no_row) (sym (numbers_at 0 sets k (omega arith) ∙ zero-add k))
    ∙ sym (each_at keys set_rows (numbers_from 0 sets) k j no_row 0 (λ _. refl) (omega arith) (omega arith))
    ∙ sym (get_or-append-add head_rows (each set_rows (numbers_from 0 sets)) (keys * k + j) no_row)
    ∙ ap (λ (n : ℕ). get_or rows n no_row) e

-- the number of the set and the `=`, put after the letters one after the other
pub numbered_is : (r : Row) (k n : ℕ) {k₁ k₂ : List ℕ} {a b : ℤ} → n ≡ length (shown k) →
    k₁ ≡ puts r.key r.len (shown k) → k₂ ≡ puts k₁ (r.len + n) (bytes "=") → a ≡ r.least → b ≡ r.most →
    record { key = k₂; len = r.len + n + 1; least = a; most = b } ≡ numbered r k
numbered_is r k n e p q f g = rw (q, p, e, f, g, sets_append r.key r.len (shown k) (bytes "="), add_assoc r.len (length (shown k)) 1)

-- a key of the table has at most so many bytes
pub kind_short : (j : ℕ) → (get_or table j no_row).len ≤ longest_key
unfolding table no_row
kind_short j = leb-true (get_or table j no_row).len longest_key (all_at (λ r. leb r.len longest_key) no_row table refl refl j)

-- ---- values by place

pub value_head : (s : Settings) (i : ℕ) → i < heads → get_or (values_of s) i (pos 0) ≡ get_or (head_values s) i (pos 0)
value_head s i h = get_or-append (head_values s) (each gain_values s.gains) (pos 0) i h

pub value_set : (s : Settings) (i : ℕ) → length s.gains ≡ sets → heads ≤ i → i < lines →
    get_or (values_of s) i (pos 0) ≡ get_or (gain_values (gains_at s.gains ((i - heads) / keys))) ((i - heads) % keys) (pos 0)
value_set s i g l h =
    let k = (i - heads) / keys in
    let j = (i - heads) % keys in
    let e : i ≡ heads + (keys * ((i - heads) / keys) + (i - heads) % keys) = omega arith in
    ap (λ (n : ℕ). get_or (values_of s) n (pos 0)) e
    ∙ get_or-append-add (head_values s) (each gain_values s.gains) (keys * k + j) (pos 0)
    ∙ each_at keys gain_values s.gains k j (pos 0) no_gains (λ _. refl) (omega arith) (omega arith)

pub values_long : (s : Settings) → length s.gains ≡ sets → length (values_of s) ≡ lines
values_long s g = let h = each_long keys gain_values s.gains (λ _. refl) in omega arith

-- ---- settings put together

-- one gain set more
pub sets_next : (i n : ℕ) (vs : List ℤ) → sets_from i (suc n) vs ≡ sets_from i n vs ++ (gains_from (i + keys * n) vs ∷ [])
sets_next i zero vs = let e : i + keys * 0 ≡ i = omega arith in rw e
sets_next i (suc n) vs =
    let e : i + keys * suc n ≡ i + keys + keys * n = omega arith in
    rw e (ap (λ (gs : List Gains). gains_from i vs ∷ gs) (sets_next (i + keys) n vs))

-- settings put together from values that the machine holds
pub settings_back : {a b c d e f h i : ℤ} {g g' : List Gains} →
    SFits w32 a → SFits w32 b → SFits w32 c → SFits w32 d → SFits w32 e → SFits w32 f → SFits w32 h → SFits w32 i → g ≡ g' →
    ◌≡◌ {A = Settings}
    (record {
      action = to_z w32 (of_z w32 a);
      lo = to_z w32 (of_z w32 b);
      hi = to_z w32 (of_z w32 c);
      out = to_z w32 (of_z w32 d);
      sp = to_z w32 (of_z w32 e);
      rate = to_z w32 (of_z w32 f);
      mean = to_z w32 (of_z w32 h);
      jump = to_z w32 (of_z w32 i);
      gains = g;
    })
    (record { action = a; lo = b; hi = c; out = d; sp = e; rate = f; mean = h; jump = i; gains = g' })
settings_back a b c d e f h i p = simp (to_z-of_z a, to_z-of_z b, to_z-of_z c, to_z-of_z d, to_z-of_z e, to_z-of_z f, to_z-of_z h, to_z-of_z i, p)
