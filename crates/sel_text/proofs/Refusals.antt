-- The rules that rows which fit their type can break.
use Rattle.std.proofs.Common.{◌≡◌, ℕ, Bool, true, false, List, [], ◌∷◌, length, Option, Some, None, Result, Ok, Err, refl, sym, subst, arith, nat_lt, IsTrue, IfErr, IsErrAnd}
use Rattle.sel_text.proofs.Common.{common_steps, or_left, or_right, list_all, nat_tests, Bits, IsFault, IsFaultOrMemory, Malformed, binary_fault, binview_fault, flat_fault, utf8view_fault, views_fault, Covers, too_many, validity_differs, last_offset, rows_between, all_text, is_text, all_placed, is_placed, View, both, and_first, and_second, Shape, of_utf8_view, Value, binview_rows, ArrayRef, fits, all_placed_bytes, exceeds_limit, exceeds_max, is_view_shape, ReportsLimit, MakesColumn, make_fault, NullSlots, Fault}
use Rattle.sel_bits.specs.declared.faults.MakeError.{MakeError}
use Rattle.sel_arrow.specs.declared.binview.BinaryViewArray.{BinaryViewArray}
use Rattle.sel_text.proofs.Making.{first_of_three, maker_told}

-- Too many rows exceed a limit of any type.
pub many_past : (beneath : NullSlots) (s : Shape) (rows : List Value) → exceeds_max (length rows) ≡ true → exceeds_limit beneath s rows ≡ true
many_past beneath s rows many = grind (arith, common_steps, or_left)

-- A validity that covers the rows has their length.
pub no_difference : (validity : Option Bits) (n : ℕ) → Covers validity n → validity_differs validity n ≡ false
no_difference validity n covers = grind (arith, nat_tests)

-- If no other rule is broken, the rows are too many.
many_told : (beneath : NullSlots) (s : Shape) (rows : List Value) (broken : Option Malformed) (error : MakeError) → ((m : Malformed) → broken ≡ Some m → too_many (length rows) ≡ true) →
    IsFault broken error → (fault : Fault) → fault ≡ make_fault error → ReportsLimit (exceeds_limit beneath s rows) fault
many_told beneath s rows broken error many is fault told = grind (arith, common_steps, many_past)

-- So an error of the constructor is permitted.
pub makes_told : (beneath : NullSlots) (s : Shape) (rows : List Value) (r : Result ArrayRef Fault) (error : MakeError) → IsErrAnd r (λ fault. fault ≡ make_fault error) →
    ((fault : Fault) → fault ≡ make_fault error → ReportsLimit (exceeds_limit beneath s rows) fault) → MakesColumn beneath s rows r
makes_told beneath s rows (Ok array) error is told = absurd is
makes_told beneath s rows (Err fault) error is told = told fault is

pub flat_told : (beneath : NullSlots) (s : Shape) (rows : List Value) (n : ℕ) (validity : Option Bits) (error : MakeError) → n ≡ length rows → Covers validity (length rows) →
    IsFault (flat_fault n validity) error → (fault : Fault) → fault ≡ make_fault error → ReportsLimit (exceeds_limit beneath s rows) fault
flat_told beneath s rows n validity error long covers = grind (arith, common_steps, no_difference, many_told, first_of_three)

-- For offsets that break no rule, the only error is out of memory.
pub memory_told : (passed : Bool) (broken : Option Malformed) (error : MakeError) → broken ≡ None → IsFaultOrMemory broken error → (fault : Fault) → fault ≡ make_fault error → ReportsLimit passed fault
memory_told passed broken error none is fault told = subst (ReportsLimit passed) (sym told) (maker_told broken error passed is (λ m some. absurd (cc (none, some))))

pub binary_told : (beneath : NullSlots) (s : Shape) (rows : List Value) (offsets bytes : List ℕ) (validity : Option Bits) (error : MakeError) → rows_between offsets ≡ length rows →
    nat_lt (length bytes) (last_offset offsets) ≡ false → Covers validity (length rows) → IsFault (binary_fault offsets bytes validity) error → (fault : Fault) → fault ≡ make_fault error → ReportsLimit (exceeds_limit beneath s rows) fault
binary_told beneath s rows offsets bytes validity error long inside covers = grind (arith, common_steps, no_difference, many_told, first_of_three)

-- ---- views

no_views_fault : (buffers : List (List ℕ)) (views : List View) → all_placed buffers views ≡ true → views_fault buffers views ≡ None
no_views_fault buffers [] placed = refl
no_views_fault buffers (view ∷ views) placed = grind (arith, common_steps, and_first, and_second, (no_views_fault buffers views (and_second (is_placed buffers view) (all_placed buffers views) placed)))

pub binview_told : (beneath : NullSlots) (s : Shape) (rows : List Value) (views : List View) (buffers : List (List ℕ)) (validity : Option Bits) (error : MakeError) → length views ≡ length rows → length buffers ≡ 1 →
    IsTrue (all_placed buffers views) → Covers validity (length rows) → IsFault (binview_fault views buffers validity) error → (fault : Fault) → fault ≡ make_fault error → ReportsLimit (exceeds_limit beneath s rows) fault
binview_told beneath s rows views buffers validity error long one placed covers = grind (arith, common_steps, no_difference, many_told, no_views_fault)

-- ---- results for rows of views

pub if_told : {T : Type 0} (r : Result T Fault) (error : Fault) (P : Fault → Type 0) → IsErrAnd r (λ fault. fault ≡ error) → P error → IfErr r P
if_told r error P is holds = grind (arith, common_steps)

pub if_made : {T : Type 0} (r : Result T Fault) (error : MakeError) (P : Fault → Type 0) → IsErrAnd r (λ fault. fault ≡ make_fault error) → ((fault : Fault) → fault ≡ make_fault error → P fault) → IfErr r P
if_made r error P is holds = grind (arith, common_steps)

-- Too many bytes exceed a limit of views.
pub bytes_past : (beneath : NullSlots) (s : Shape) (rows : List Value) → is_view_shape s ≡ true → exceeds_max (all_placed_bytes rows) ≡ true → exceeds_limit beneath s rows ≡ true
bytes_past beneath s rows view many = grind (arith, common_steps, or_right)

-- ---- strings

text_fits : (row : Value) → fits of_utf8_view row ≡ true → is_text row ≡ true
text_fits row fit = grind (arith, common_steps)

pub texts_fit : (rows : List Value) → list_all (fits of_utf8_view) rows ≡ true → all_text rows ≡ true
texts_fit [] fit = refl
texts_fit (row ∷ rows) fit = grind (arith, common_steps, both, text_fits, and_first, fits, and_second, (texts_fit rows (and_second (fits of_utf8_view row) (list_all (fits of_utf8_view) rows) fit)))

-- A view column whose rows are strings breaks no rule of string columns.
pub no_text_fault : (array : BinaryViewArray) → all_text (binview_rows array) ≡ true → utf8view_fault array.views array.buffers array.validity ≡ None
no_text_fault array texts = grind (arith, common_steps, no_difference, no_views_fault)

pub never_broken : {A : Type 0} (broken : Option Malformed) (error : MakeError) → broken ≡ None → IsFault broken error → A
never_broken broken error none is = grind (arith, common_steps)
