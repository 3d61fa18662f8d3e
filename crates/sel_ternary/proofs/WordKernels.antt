-- Broadcast rows by the kernels of their types, and null rows by a validity.
use Rattle.sel_ternary.proofs.Common.{common_steps, ◌≡◌, ℕ, suc, ◌<◌, ◌∙◌, Bool, true, false, not, ◌&&◌, List, [], ◌∷◌, length, map, get_or, refl, ap, sym}
use Rattle.sel_ternary.proofs.Common.{subst, arith, replicate, Option, None, if◌then◌else◌, list_all, append-nil, Bits, zip_with, hidden, Covers, Value, Null}
use Rattle.sel_ternary.proofs.Common.{Bytes, View, pick, choose, first_row}
use Rattle.sel_ternary.specs.Chosen.{chosen_rows, spread_rows, SideFits}
use Rattle.sel_arrow.specs.{Texts.is_text, Value.is_null, Views.view_bytes, Views.view_rows}
use Rattle.sel_bits.specs.Validity.{valid_at}
use Rattle.std.{proofs.Common.◌≢◌, proofs.Common.⊎_elim, proofs.lemmas.Bool.cases_Bool, specs.Prelude.count_by}
use Rattle.sel_arrow.proofs.{Lists.and_first, Lists.and_second, ViewRows.length-view_rows, ViewRows.null_view, ViewRows.valid_view}
use Rattle.sel_runs.specs.Runs.{expand, unrolled}
use Rattle.sel_runs.proofs.RunLists.{map_nulls}
use Rattle.sel_ternary.proofs.{SameNeeds.held_count, Placed.texts, Chosen.chosen_spread, Chosen.length-spread, Chosen.two_equal}

-- ---- the only row of a column

pub one_null : (vs : List Value) → length vs ≡ 1 → 0 < count_by is_null vs → first_row vs ≡ Null
one_null [] one some = absurd (omega (arith, one))
one_null (v ∷ []) one some = is_null_of v some
  where
    is_null_of : (v : Value) → 0 < count_by is_null (v ∷ []) → v ≡ Null
    is_null_of Null some = refl
    is_null_of v some = absurd (omega (arith, some))
one_null (v ∷ w ∷ vs) one some = absurd (omega (arith, one))

pub one_valid : (vs : List Value) → length vs ≡ 1 → (0 < count_by is_null vs → ⊥) → first_row vs ≢ Null
one_valid [] one none same = absurd (omega (arith, one))
one_valid (v ∷ []) one none same = none (subst (λ (x : Value). 0 < count_by is_null (x ∷ [])) (sym same) (omega arith))
one_valid (v ∷ w ∷ vs) one none same = absurd (omega (arith, one))

-- ---- null rows

nulled_true : (ms : List Bool) (fs : List Value) → length fs ≡ length ms → hidden (map not ms) fs ≡ choose ms (replicate (length ms) Null) fs
nulled_true [] [] long = refl
nulled_true (true ∷ ms) (f ∷ fs) long = ap (λ l. Null ∷ l) (nulled_true ms fs (omega (arith, long)))
nulled_true (false ∷ ms) (f ∷ fs) long = ap (λ l. f ∷ l) (nulled_true ms fs (omega (arith, long)))
nulled_true ms fs long = absurd (omega (arith, long))

nulled_false : (ms : List Bool) (ts : List Value) → length ts ≡ length ms → hidden ms ts ≡ choose ms ts (replicate (length ms) Null)
nulled_false [] [] long = refl
nulled_false (m ∷ ms) (t ∷ ts) long = ap (λ l. (if m then t else Null) ∷ l) (nulled_false ms ts (omega (arith, long)))
nulled_false ms ts long = absurd (omega (arith, long))

-- A null row, for each bit of the mask.
null_spread : (ms : List Bool) (vs : List Value) → first_row vs ≡ Null → replicate (length ms) Null ≡ spread_rows false ms vs
null_spread ms vs null = ap (replicate (length ms)) (sym null) ∙ sym (two_equal ms (first_row vs))

pub null_then : (tc fc : Bool) (ms : List Bool) (ts fs : List Value) → tc ≡ false → first_row ts ≡ Null → SideFits fc (length fs) (length ms) → hidden (map not ms) (spread_rows fc ms fs) ≡ chosen_rows tc fc ms ts fs
null_then false fc ms ts fs row null fits =
    nulled_true ms (spread_rows fc ms fs) (length-spread fc ms fs fits) ∙ ap (λ l. choose ms l (spread_rows fc ms fs)) (null_spread ms ts null) ∙ sym (chosen_spread false fc ms ts fs)
null_then true fc ms ts fs row null fits = absurd (cc row)

pub null_otherwise : (tc fc : Bool) (ms : List Bool) (ts fs : List Value) → fc ≡ false → first_row fs ≡ Null → SideFits tc (length ts) (length ms) → hidden ms (spread_rows tc ms ts) ≡ chosen_rows tc fc ms ts fs
null_otherwise tc false ms ts fs row null fits = grind (arith, common_steps, nulled_false, length-spread, null_spread, chosen_spread)
null_otherwise tc true ms ts fs row null fits = absurd (cc row)

-- ---- the sides

pub one_row : (is_column : Bool) (rows mask : ℕ) → SideFits is_column rows mask → is_column ≡ false → rows ≡ 1
one_row true rows mask fits row = absurd (cc row)
one_row false rows mask fits row = fits

-- Rows under two validities are those under both at once.
pub hidden_twice : (bs keep : List Bool) (vs : List Value) → length bs ≡ length keep → hidden (zip_with (λ x y. x && y) bs keep) vs ≡ hidden keep (hidden bs vs)
hidden_twice [] [] vs long = refl
hidden_twice (b ∷ bs) (k ∷ keep) [] long = refl
hidden_twice (true ∷ bs) (k ∷ keep) (v ∷ vs) long = ap (λ l. (if k then v else Null) ∷ l) (hidden_twice bs keep vs (omega (arith, long)))
hidden_twice (false ∷ bs) (true ∷ keep) (v ∷ vs) long = ap (λ l. Null ∷ l) (hidden_twice bs keep vs (omega (arith, long)))
hidden_twice (false ∷ bs) (false ∷ keep) (v ∷ vs) long = ap (λ l. Null ∷ l) (hidden_twice bs keep vs (omega (arith, long)))
hidden_twice bs keep vs long = absurd (omega (arith, long))

pub length-zip_and : (bs keep : List Bool) → length bs ≡ length keep → length (zip_with (λ x y. x && y) bs keep) ≡ length keep
length-zip_and [] [] long = refl
length-zip_and (b ∷ bs) (k ∷ keep) long = ap suc (length-zip_and bs keep (omega (arith, long)))
length-zip_and bs keep long = absurd (omega (arith, long))

-- ---- the first row of a view column

pub first_viewed : (views : List View) (buffers : List (List ℕ)) (validity : Option Bits) (d : View) → length (view_rows views buffers validity) ≡ 1 → Covers validity (length views)
    → first_row (view_rows views buffers validity) ≢ Null → first_row (view_rows views buffers validity) ≡ Bytes (view_bytes buffers (get_or views 0 d))
first_viewed views buffers validity d one covers valid =
    let inside : 0 < length views = omega (arith, one, length-view_rows views buffers validity) in
    ⊎_elim (λ e. valid_view views buffers validity 0 d e inside covers) (λ e. absurd (valid (null_view views buffers validity 0 e inside covers))) (cases_Bool (valid_at validity 0))

-- ---- two null rows

-- A run without a source gives nulls.
pub null_run : (xss : List (List Value)) (n : ℕ) → pick Null xss (expand (record { source = None; start = 0; len = n } ∷ [])) ≡ replicate n Null
null_run xss n = ap (pick Null xss) (append-nil (unrolled (record { source = None; start = 0; len = n }))) ∙ map_nulls Null xss n

-- ---- strings

pub first_text : (vs : List Value) → list_all is_text vs ≡ true → is_text (first_row vs) ≡ true
first_text [] texts = refl
first_text (v ∷ vs) texts = and_first (is_text v) (list_all is_text vs) texts

pub hidden_text : (bs : List Bool) (vs : List Value) → list_all is_text vs ≡ true → list_all is_text (hidden bs vs) ≡ true
hidden_text [] vs texts = texts
hidden_text (b ∷ bs) [] texts = refl
hidden_text (true ∷ bs) (v ∷ vs) texts = grind (arith, common_steps, (hidden_text bs vs (and_second (is_text v) (list_all is_text vs) texts)))
hidden_text (false ∷ bs) (v ∷ vs) texts = hidden_text bs vs (and_second (is_text v) (list_all is_text vs) texts)

pub ruleset held_counts = held_count

pub ruleset word_texts = (texts, first_text, hidden_text)

pub ruleset null_rows = (one_null, one_valid)
