-- The test whether settings lie within the table: its parts, and what it says of each value.
use Prim.Native.Nat.{ℕ, zero, suc, ◌+◌, ◌-◌, ◌<◌, ◌≤◌}
use mathlib.Core.Path.{◌≡◌, refl, sym, ap, ap₂, ◌∙◌}
use mathlib.Core.Bool.{Bool, true, false, ◌&&◌}
use mathlib.Core.List.{List, [], ◌∷◌, ◌++◌}
use native.Mathlib.Omega.{arith}
use lib.Dec.{lit<}
use lib.IntN.{ℤ, pos, negsuc}
use lib.ListN.{length, get_or, drop, replicate}
use mir.Syntax.{w32}
use mir.Val.{SFits, to_z, of_z}
use mir.Facts.{to_z-of_z}
use Rattle.whole.specs.Numbers.{inside}
use Rattle.whole.proofs.Truth.{never, both, and}
use Rattle.settings.specs.declared.Gains.{Gains}
use Rattle.settings.specs.declared.Settings.{Settings}
use Rattle.settings.specs.declared.table.Row.{Row}
use Rattle.settings.specs.Table.{reach, fastest, window, farthest, gain, share, head_rows, gain_rows, table, sets, heads, keys, lines_for, set_rows, each, numbers_from, rows_of, rows, no_row, in_row}
use Rattle.settings.specs.Settings.{no_gains, gains_at, gains_from, sets_from, gain_values, head_values, values_of, settings_of, filled, all_in, in_table}
use Rattle.whole.proofs.Lists.{next}
use Rattle.settings.proofs.Rows.{rows_long, rows_parts}
use Rattle.settings.proofs.Values.{values_front, values_filled}

-- ---- the test of one value after another

-- a value that the machine holds, against row j of the table
pub held : (j : ℕ) {z : ℤ} → SFits w32 z → in_row (get_or table j no_row) (to_z w32 (of_z w32 z)) ≡ in_row (get_or table j no_row) z
held j f = rw (to_z-of_z f)

pub meet : {t u a b : Bool} → t ≡ a → u ≡ b → (t && u) ≡ (a && b)
meet p q = rw (p, q)

pub last : {t a : Bool} → t ≡ a → t ≡ (a && true)
last {t} {a} p = p ∙ alone a
  where
    alone : (a : Bool) → a ≡ (a && true)
    alone true = refl
    alone false = refl

-- the test of the first rows, and then of the others
pub all_append : (rs qs : List Row) (vs ws : List ℤ) → length vs ≡ length rs → all_in (rs ++ qs) (vs ++ ws) ≡ (all_in rs vs && all_in qs ws)
all_append [] qs [] ws e = refl
all_append [] qs (z ∷ vs) ws e = absurd (omega arith)
all_append (r ∷ rs) qs [] ws e = absurd (omega arith)
all_append (r ∷ rs) qs (z ∷ vs) ws e = joined (in_row r z) (all_in rs vs) (all_in qs ws) (all_append rs qs vs ws (omega arith))
  where
    joined : (t v w : Bool) {u : Bool} → u ≡ (v && w) → (t && u) ≡ ((t && v) && w)
    joined true v w p = p
    joined false v w p = refl

all_front : (rs qs : List Row) (vs : List ℤ) → all_in (rs ++ qs) vs ≡ true → all_in rs vs ≡ true
all_front [] qs vs e = refl
all_front (r ∷ rs) qs [] e = never e
all_front (r ∷ rs) qs (z ∷ vs) e =
    let b = both (in_row r z) (all_in (rs ++ qs) vs) e in
    and b.0 (all_front rs qs vs b.1)

pub rows_front : (n : ℕ) (vs : List ℤ) → n ≤ sets → all_in rows vs ≡ true → all_in (rows_of n) vs ≡ true
rows_front n vs h e =
    all_front (rows_of n) (each set_rows (numbers_from n (sets - n))) vs (sym (ap (λ (rs : List Row). all_in rs vs) (rows_parts n h)) ∙ e)

-- the test of the gain sets from set k on
abbrev pub sets_in : List Gains → ℕ → Bool
sets_in gs k = all_in (each set_rows (numbers_from k (sets - k))) (each gain_values (drop k gs))

pub table_parts : (s : Settings) → in_table s ≡ (all_in head_rows (head_values s) && sets_in s.gains 0)
unfolding in_table rows_of
table_parts s = all_append head_rows (each set_rows (numbers_from 0 sets)) (head_values s) (each gain_values s.gains) refl

pub table_sets : (s : Settings) → all_in head_rows (head_values s) ≡ true → in_table s ≡ sets_in s.gains 0
table_sets s e = table_parts s ∙ rw e

pub sets_in_next : (gs : List Gains) (k : ℕ) → k < sets → length gs ≡ sets →
    sets_in gs k ≡ (all_in gain_rows (gain_values (gains_at gs k)) && sets_in gs (k + 1))
sets_in_next gs k h e =
    let n : sets - k ≡ suc (sets - (k + 1)) = omega arith in
    rw (n, next gs k no_gains (omega arith))
    (all_append (set_rows k) (each set_rows (numbers_from (k + 1) (sets - (k + 1)))) (gain_values (gains_at gs k)) (each gain_values (drop (k + 1) gs)) refl)

pub sets_in_end : (gs : List Gains) (k : ℕ) → sets ≤ k → sets_in gs k ≡ true
sets_in_end gs k h = let n : sets - k ≡ 0 = omega arith in rw n

-- ---- the test of settings that are filled

-- a gain set in the place of each of n
again_in : (g : Gains) (k n : ℕ) → all_in gain_rows (gain_values g) ≡ true → all_in (each set_rows (numbers_from k n)) (each gain_values (replicate n g)) ≡ true
again_in g k zero e = refl
again_in g k (suc n) e =
    all_append (set_rows k) (each set_rows (numbers_from (k + 1) n)) (gain_values g) (each gain_values (replicate n g)) refl
    ∙ rw (e, again_in g (k + 1) n e)

-- set 0, of values within the ranges of their rows
first_in : (n : ℕ) (vs : List ℤ) → length vs ≡ lines_for heads (suc n) → all_in (rows_of (suc n)) vs ≡ true → all_in gain_rows (gain_values (gains_from heads vs)) ≡ true
unfolding rows_of
first_in n vs h e =
    let s = settings_of vs in
    let ks = each set_rows (numbers_from 1 n) in
    let gs = each gain_values (sets_from (heads + keys) n vs) in
    let g = gain_values (gains_from heads vs) in
    let v : all_in (rows_of (suc n)) (head_values s ++ (g ++ gs)) ≡ true = ap (all_in (rows_of (suc n))) (values_front (suc n) vs h) ∙ e in
    let p = both (all_in head_rows (head_values s)) (all_in (set_rows 0 ++ ks) (g ++ gs)) (sym (all_append head_rows (set_rows 0 ++ ks) (head_values s) (g ++ gs) refl) ∙ v) in
    (both (all_in gain_rows g) (all_in ks gs) (sym (all_append (set_rows 0) ks g gs refl) ∙ p.1)).0

pub filled_in : (n : ℕ) (vs : List ℤ) → 1 ≤ n → n ≤ sets → length vs ≡ lines_for heads n → all_in (rows_of n) vs ≡ true → in_table (filled n (settings_of vs)) ≡ true
unfolding in_table
filled_in zero vs l m h e = absurd (omega arith)
filled_in (suc n) vs l m h e =
    let g = gains_from heads vs in
    let more = numbers_from (suc n) (sets - suc n) in
    ap₂ all_in (rows_parts (suc n) m) (values_filled (suc n) vs m h)
    ∙ all_append (rows_of (suc n)) (each set_rows more) vs (each gain_values (replicate (sets - suc n) g)) (h ∙ sym (rows_long (suc n)))
    ∙ rw (e, again_in g (suc n) (sets - suc n) (first_in n vs h e))

-- ---- what the test says of each value

-- of the value at a place
pub all_at : (rs : List Row) (vs : List ℤ) → all_in rs vs ≡ true → (i : ℕ) → i < length rs → in_row (get_or rs i no_row) (get_or vs i (pos 0)) ≡ true
all_at [] vs e i h = absurd (omega arith)
all_at (r ∷ rs) [] e i h = never e
all_at (r ∷ rs) (z ∷ vs) e zero h = (both (in_row r z) (all_in rs vs) e).0
all_at (r ∷ rs) (z ∷ vs) e (suc i) h = all_at rs vs (both (in_row r z) (all_in rs vs) e).1 i (omega arith)

-- and of the values from a place on
pub all_from : (n : ℕ) (rs : List Row) (vs : List ℤ) → all_in rs vs ≡ true → all_in (drop n rs) (drop n vs) ≡ true
all_from zero rs vs e = e
all_from (suc n) [] vs e = refl
all_from (suc n) (r ∷ rs) [] e = never e
all_from (suc n) (r ∷ rs) (z ∷ vs) e = all_from n rs vs (both (in_row r z) (all_in rs vs) e).1

pub record GainsIn (g : Gains) : Type 0 where
  pub kp : inside (pos 0) (pos gain) g.kp ≡ true
  pub ki : inside (pos 0) (pos gain) g.ki ≡ true
  pub kd : inside (pos 0) (pos gain) g.kd ≡ true
  pub alpha : inside (pos 1) (pos share) g.alpha ≡ true
  pub kt : inside (pos 0) (pos share) g.kt ≡ true

pub record SettingsIn (s : Settings) : Type 0 where
  pub action : inside (pos 0) (pos 1) s.action ≡ true
  pub lo : inside (negsuc 999999) (pos reach) s.lo ≡ true
  pub hi : inside (negsuc 999999) (pos reach) s.hi ≡ true
  pub out : inside (negsuc 999999) (pos reach) s.out ≡ true
  pub sp : inside (negsuc 999999) (pos reach) s.sp ≡ true
  pub rate : inside (pos 1) (pos fastest) s.rate ≡ true
  pub mean : inside (pos 1) (pos window) s.mean ≡ true
  pub jump : inside (pos 1) (pos farthest) s.jump ≡ true
  pub gains : (k : ℕ) → k < sets → GainsIn (gains_at s.gains k)

-- of any gain set, however many there are
sets_in_lem : (gs : List Gains) (ks : List ℕ) → all_in (each set_rows ks) (each gain_values gs) ≡ true → (j : ℕ) → j < length ks → GainsIn (gains_at gs j)
sets_in_lem gs [] e j h = absurd (omega arith)
sets_in_lem [] (k ∷ ks) e j h = never e
sets_in_lem (g ∷ gs) (k ∷ ks) e zero h =
    let at = all_at (each set_rows (k ∷ ks)) (each gain_values (g ∷ gs)) e in
    record {
      kp = at 0 (omega arith);
      ki = at 1 (omega arith);
      kd = at 2 (omega arith);
      alpha = at 3 (omega arith);
      kt = at 4 (omega arith);
    }
sets_in_lem (g ∷ gs) (k ∷ ks) e (suc j) h = sets_in_lem gs ks (all_from keys (each set_rows (k ∷ ks)) (each gain_values (g ∷ gs)) e) j (omega arith)

pub settings_in : (s : Settings) → in_table s ≡ true → SettingsIn s
unfolding in_table rows_of
settings_in s e =
    let at = all_at rows (values_of s) e in
    record {
      action = at 0 (lit< tt);
      lo = at 1 (lit< tt);
      hi = at 2 (lit< tt);
      out = at 3 (lit< tt);
      sp = at 4 (lit< tt);
      rate = at 5 (lit< tt);
      mean = at 6 (lit< tt);
      jump = at 7 (lit< tt);
      gains = sets_in_lem s.gains (numbers_from 0 sets) (all_from heads rows (values_of s) e);
    }
