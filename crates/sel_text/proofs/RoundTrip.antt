-- What is printed is parsed again.
use Rattle.std.proofs.Common.{arith, ◌≡◌, ℕ, ◌≤◌, ◌<◌, true, List, [], Option, Some, None, Ok, Err, ap, sym, subst, ◌∙◌, IfErr, IfOk, IsTrue, Result}
use Rattle.sel_text.proofs.Common.{common_steps, list_all, shape_of, depth, rows, type_of, Shape, Value, Column, ArrowDataType, fits, RowsFit, spelled}
use Rattle.sel_text.proofs.Common.{IsLimitOrMemoryError, text_of, type_text, widths_written}
use Rattle.sel_text.specs.declared.text_error.TextError.{TextError, TheVariants.Limit}
use Rattle.sel_text.proofs.{OneType.one_type, Told.texts_tell, SpelledRows.rows_spelled, SpelledRows.type_spelled}

abbrev bytes_of : Option (List ℕ) → List ℕ
bytes_of None = []
bytes_of (Some bytes) = bytes

-- ---- the type

-- A printed type is its own canonical spelling.
pub type_told : (s printed : Shape) (source text : List ℕ) → widths_written s ≡ true → printed ≡ s → source ≡ text → text ≡ type_text printed → spelled source ≡ Some (type_text s)
type_told s printed source text written same is prints = ap spelled (is ∙ prints ∙ ap type_text same) ∙ type_spelled s written

-- The type that is parsed from a text is the only one with that text.
pub type_back : (s : Shape) (source : List ℕ) → widths_written s ≡ true → spelled source ≡ Some (type_text s) → (r : Result ArrowDataType TextError) →
    IfOk r (λ dtype. spelled source ≡ Some (type_text (shape_of dtype))) → IfOk r (λ dtype. IsTrue (widths_written (shape_of dtype))) → IfOk r (λ dtype. depth (shape_of dtype) ≤ 64) →
    IfErr r (λ error. (shape : Shape) → IsTrue (widths_written shape) → spelled source ≡ Some (type_text shape) → IsLimitOrMemoryError error) →
    IfErr r (λ error. error ≡ Limit → (shape : Shape) → IsTrue (widths_written shape) → spelled source ≡ Some (type_text shape) → 64 < depth shape) →
    IfOk r (λ dtype. shape_of dtype ≡ s) × IfOk r (λ _. depth s ≤ 64) × IfErr r IsLimitOrMemoryError × IfErr r (λ error. error ≡ Limit → 64 < depth s)
type_back s source written told (Ok dtype) text width levels refused limit =
    let same = one_type (shape_of dtype) s width written (ap bytes_of (sym text ∙ told)) in
    (same, subst (λ t. depth t ≤ 64) same levels, tt, tt)
type_back s source written told (Err error) text width levels refused limit = (tt, tt, refused s written told, λ is. limit is s written told)

-- ---- the rows

-- Printed rows are their own canonical spelling.
pub rows_told : (s t : Shape) (vs : List Value) (source text : List ℕ) → list_all (fits s) vs ≡ true → t ≡ s → source ≡ text → text ≡ text_of s vs → spelled source ≡ Some (text_of t vs)
rows_told s t vs source text fit same is prints = ap spelled (is ∙ prints) ∙ rows_spelled s vs fit ∙ ap (λ u. Some (text_of u vs)) (sym same)

-- Rows that have the same text are equal.
pub rows_again : (s t : Shape) (vs others : List Value) (source : List ℕ) → list_all (fits s) vs ≡ true → list_all (fits s) others ≡ true → t ≡ s → spelled source ≡ Some (text_of t vs) → spelled source ≡ Some (text_of t others) → others ≡ vs
rows_again s t vs others source fit fitted same told back = grind (arith, common_steps, texts_tell)

pub fit_again : (s t : Shape) (vs : List Value) → list_all (fits s) vs ≡ true → t ≡ s → list_all (fits t) vs ≡ true
fit_again s t vs fit same = subst (λ u. list_all (fits u) vs ≡ true) (sym same) fit

pub column_fits_again : (s t : Shape) (read again : Column) → RowsFit read → read ≡ again → type_of again ≡ t → t ≡ s → list_all (fits s) (rows again) ≡ true
column_fits_again s t read again fit is typed same = subst (λ u. list_all (fits u) (rows again) ≡ true) (typed ∙ same) (subst RowsFit is fit)
