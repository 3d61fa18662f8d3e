-- The horizontal flatten of integer columns.
use Rattle.std.proofs.Common.{rules, ◌≡◌, ℕ, ◌<◌, ◌≤◌, Bor, List, [], ◌∷◌, length, map, Option, Some, None, arith, refl, Decides, IsTrue, ◌&&◌, nat_lt, option_map, codes}
use Rattle.sel_lines.proofs.Common.{common_steps, All, Decides-and, Decides-ltb, length-map, All-nil, All-head, All-weaker, max_rows, OutOfMemory, SizeLimit, ComputeError, rows, type_of, primitive_rows, of_int64, Value, ArrayRef, IsLimitOrMemory, all_some, column_text, flatten_part, side_by_side, flat_text, flatten_answer, flatten_words, read_part, size_of}
use Rattle.std.proofs.lemmas.{Bool.cond-true, Bool.cond-false, Simd.map-map}
use Rattle.sel_bits.specs.declared.faults.{Limit.Limit, PolarsError.PolarsError}
use Rattle.sel_arrow.specs.declared.column.Column.{Column}
use Rattle.sel_gather.specs.Sources.{first_type}
use Rattle.sel_kernels.specs.Flatten.{flatten, parts_fit, exceeded_flattened}
use Rattle.sel_lines.{specs.Words.if_both, specs.declared.flatten.Part.Part, proofs.MadeColumns.few, proofs.RowLemmas.map_now}

-- ---- whether the columns fit

fit_test : (h : ℕ) (xss : List (List Value)) (ws : List ℕ) → Decides (nat_lt 0 (length xss) && parts_fit h xss ws) ((0 < length xss) × IsTrue (parts_fit h xss ws))
fit_test h xss ws = Decides-and _ _ (Decides-ltb 0 (length xss)) ((λ e. e), (λ e. e))

pub fitting : (h : ℕ) (xss : List (List Value)) (ws : List ℕ) → 0 < length xss → IsTrue (parts_fit h xss ws) → side_by_side h xss ws ≡ Some (flatten xss ws h)
fitting h xss ws some fit = cond-true _ _ _ ((fit_test h xss ws).1 (some, fit))

pub not_fitting : (h : ℕ) (xss : List (List Value)) (ws : List ℕ) → (0 < length xss → IsTrue (parts_fit h xss ws) → ⊥) → None ≡ side_by_side h xss ws
not_fitting h xss ws never = search (rules, fit_test)

-- ---- columns of one type

pub first_number : (arrays : List ArrayRef) → 0 < length arrays → All (λ a. type_of a.column ≡ of_int64) arrays → first_type (map (λ a. a.column) arrays) ≡ of_int64
first_number [] some numbers = absurd (omega arith)
first_number (a ∷ arrays) some numbers = All-head (λ a. type_of a.column ≡ of_int64) a arrays numbers

pub numbers_alike : (arrays : List ArrayRef) → All (λ a. type_of a.column ≡ of_int64) arrays → All (λ a. type_of a.column ≡ first_type (map (λ a. a.column) arrays)) arrays
numbers_alike [] numbers = All-nil _
numbers_alike (a ∷ arrays) numbers = grind (arith, common_steps, All-weaker, All-head)

-- ---- more rows than a column can have

many_numbers : (h : ℕ) (columns : List Column) (vs : List Value) (limit : Limit) → exceeded_flattened h of_int64 columns vs limit → max_rows < length vs
many_numbers h columns vs limit past = grind (arith, common_steps)

-- Rows that a column can have.
pub column_flat_text : (vs : List Value) → length vs ≤ max_rows → flat_text vs ≡ column_text vs
column_flat_text vs le = cond-false _ _ _ (few (length vs) le)

-- An error other than out of memory has this text.
pub refused_text : (h : ℕ) (arrays : List ArrayRef) (ws : List ℕ) (fault : PolarsError) → 0 < length arrays → All (λ a. type_of a.column ≡ of_int64) arrays
    → IsTrue (parts_fit h (map (λ a. rows a.column) arrays) ws)
    → IsLimitOrMemory (exceeded_flattened h (first_type (map (λ a. a.column) arrays)) (map (λ a. a.column) arrays) (flatten (map (λ a. rows a.column) arrays) ws h)) fault
    → IsLimitOrMemory (λ limit. option_map flat_text (side_by_side h (map (λ a. rows a.column) arrays) ws) ≡ Some (codes "size limit rows")) fault
refused_text h arrays ws OutOfMemory some numbers fit refused = tt
refused_text h arrays ws (SizeLimit limit) some numbers fit refused = grind (arith, common_steps, length-map, first_number, fitting, Decides-ltb, many_numbers)
refused_text h arrays ws ComputeError some numbers fit refused = absurd refused

-- ---- the parsed parts

pub answer_read : (h : ℕ) (parts : List Part)
    → option_map flat_text (side_by_side h (map (λ part. primitive_rows part.column) parts) (map (λ part. part.width) parts)) ≡ flatten_answer h (map read_part parts)
answer_read h parts =
    rw (map-map (λ (part : ℕ × List Value). part.1) read_part parts, map-map (λ (part : ℕ × List Value). part.0) read_part parts) refl

-- The words after the height are the parts.
pub words_read : (words rest : List (Bor (List ℕ))) (first : Bor (List ℕ)) (h : ℕ) (parts : Option (List (ℕ × List Value))) → words ≡ first ∷ rest
    → Some h ≡ size_of first.now → parts ≡ all_some (map (λ word. flatten_part word.now) rest)
    → if_both flatten_answer (Some h) parts ≡ flatten_words (map (λ word. word.now) words)
words_read words rest first h parts split height is = rw (split, ← height, is, map_now flatten_part rest) refl
