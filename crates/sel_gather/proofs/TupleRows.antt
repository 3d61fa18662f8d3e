-- The values of struct rows are rows of the fields.
use Rattle.sel_gather.proofs.Common.{common_steps, All-map, ◌≡◌, All, Bor, ℕ, zero, suc, ◌<◌, Bool, true, false, ◌&&◌, ◌==◌, List, [], ◌∷◌, length, map, Option, Some, None}
use Rattle.sel_gather.proofs.Common.{refl, ap, sym, ◌∙◌, arith, get_or, if◌then◌else◌, range_with_len, length-map, get_or-map, length-map-range_with_len}
use Rattle.sel_gather.proofs.Common.{get_or-map-range_with_len, Bits, hidden, masked, struct_at, rows, rows_of_each, row_count, type_of, types_of_each}
use Rattle.sel_gather.proofs.Common.{well_formed, all_well_formed, IsField, IsWellFormed, Shape, Shapes, of_struct, shape_list, Value, Null, is_valid, Column}
use Rattle.sel_gather.proofs.Common.{Row_of-Column, end_of-Column, more_of-Column, Struct', and_first, and_second, length-rows, struct_covered, columns_in}
use Rattle.sel_gather.proofs.Common.{field, part_at, cleared, found, pick, PickFits}
use Rattle.sel_gather.proofs.{ItemRuns.rows_of, ItemRuns.listed_values, Rebuilt.only_null}

-- ---- the fields, by position

pub rows_in : (n : _) (row : Row_of-Column n) → rows_of_each row ≡ map rows (columns_in row)
rows_in n end_of-Column = refl
rows_in n (more_of-Column c rest) = ap (λ l. rows c ∷ l) (rows_in _ rest)

count_in : (n : _) (row : Row_of-Column n) → length (columns_in row) ≡ length (shape_list (types_of_each row))
count_in n end_of-Column = refl
count_in n (more_of-Column c rest) = ap suc (count_in _ rest)

type_in : (n : _) (row : Row_of-Column n) (j : ℕ) (c : Column) (d : Shape) → j < length (columns_in row) → type_of (get_or (columns_in row) j c) ≡ get_or (shape_list (types_of_each row)) j d
type_in n end_of-Column j c d h = absurd (omega (arith, h))
type_in n (more_of-Column x rest) zero c d h = refl
type_in n (more_of-Column x rest) (suc j) c d h = type_in _ rest j c d (omega arith)

pub formed_in : (n : _) (row : Row_of-Column n) (len j : ℕ) (c : Column) → all_well_formed len row ≡ true → j < length (columns_in row) → IsField len (get_or (columns_in row) j c)
formed_in n end_of-Column len j c all h = absurd (omega (arith, h))
formed_in n (more_of-Column x rest) len zero c all h = grind (arith, common_steps, and_first, and_second)
formed_in n (more_of-Column x rest) len (suc j) c all h = formed_in _ rest len j c (and_second ((row_count x == len) && well_formed x) (all_well_formed len rest) all) (omega arith)

pub field_type : (c : Column) (ss : Shapes) (j : ℕ) (d : Shape) → type_of c ≡ of_struct ss → j < length (shape_list ss) → type_of (field j c) ≡ get_or (shape_list ss) j d
field_type (Struct' len n fields validity) ss j d is h = grind (arith, common_steps, count_in, type_in)
field_type c ss j d is h = absurd (cc is)

pub field_formed : (c : Column) (ss : Shapes) (j : ℕ) → type_of c ≡ of_struct ss → well_formed c ≡ true → j < length (shape_list ss) → IsField (row_count c) (field j c)
field_formed (Struct' len n fields validity) ss j is formed h =
    let same : types_of_each fields ≡ ss = cc is in
    let inside : j < length (columns_in fields) = omega (arith, h, count_in _ fields, ap (λ l. length (shape_list l)) same) in
    formed_in _ fields len j (Struct' len n fields validity) (struct_covered len validity (all_well_formed len fields) formed).2 inside
field_formed c ss j is formed h = absurd (cc is)

-- ---- rows that are valid

shown_hidden : (bs : List Bool) (vs : List Value) (k : ℕ) → is_valid (get_or (hidden bs vs) k Null) ≡ true → get_or (hidden bs vs) k Null ≡ get_or vs k Null
shown_hidden [] vs k e = refl
shown_hidden (b ∷ bs) [] k e = refl
shown_hidden (true ∷ bs) (v ∷ vs) zero e = refl
shown_hidden (false ∷ bs) (v ∷ vs) zero e = absurd (cc e)
shown_hidden (b ∷ bs) (v ∷ vs) (suc k) e = shown_hidden bs vs k e

shown_masked : (validity : Option Bits) (vs : List Value) (k : ℕ) → is_valid (get_or (masked validity vs) k Null) ≡ true → get_or (masked validity vs) k Null ≡ get_or vs k Null
shown_masked None vs k e = refl
shown_masked (Some validity) vs k e = shown_hidden validity.bits vs k e

shown_inside : (vs : List Value) (k : ℕ) → is_valid (get_or vs k Null) ≡ true → k < length vs
shown_inside [] k e = absurd (cc e)
shown_inside (v ∷ vs) zero e = omega arith
shown_inside (v ∷ vs) (suc k) e = let rest = shown_inside vs k e in omega (arith, rest)

pub part_found : (fs : List (List Value)) (j k : ℕ) → j < length fs → part_at j (struct_at fs k) ≡ get_or (get_or fs j []) k Null
part_found fs j k h = ap (λ l. get_or l j Null) (listed_values (map (λ f. get_or f k Null) fs)) ∙ get_or-map (λ f. get_or f k Null) fs j [] Null h

-- Value j of a valid struct row is the row of field j.
pub field_row : (c : Column) (ss : Shapes) (j k : ℕ) → type_of c ≡ of_struct ss → j < length (shape_list ss) → is_valid (get_or (rows c) k Null) ≡ true → get_or (rows (field j c)) k Null ≡ part_at j (get_or (rows c) k Null)
field_row (Struct' len n fields validity) ss j k is h valid =
    let c = Struct' len n fields validity in
    let fs = rows_of_each fields in
    let vs = map (struct_at fs) (range_with_len 0 len) in
    let same : types_of_each fields ≡ ss = cc is in
    let inside : j < length (columns_in fields) = omega (arith, h, count_in _ fields, ap (λ l. length (shape_list l)) same) in
    let shown = shown_masked validity vs k valid in
    let below : k < len = omega (arith, shown_inside vs k (ap is_valid (sym shown) ∙ valid), length-map-range_with_len (struct_at fs) 0 len) in
    let row = shown ∙ get_or-map-range_with_len (struct_at fs) 0 len k k Null below (omega arith) in
    let field_is : get_or fs j [] ≡ rows (field j c) = ap (λ l. get_or l j []) (rows_in _ fields) ∙ get_or-map rows (columns_in fields) j c [] inside in
    let many : j < length fs = omega (arith, inside, ap length (rows_in _ fields), length-map (columns_in fields) rows) in
    sym (ap (part_at j) row ∙ part_found fs j k many ∙ ap (λ l. get_or l k Null) field_is)
field_row c ss j k is h valid = absurd (cc is)

-- ---- row references to rows of the fields

abbrev pub field_rows : ℕ → List (Bor Column) → List (List Value)
field_rows j cs = map (λ c. rows (field j c.now)) cs

module _ (ss : Shapes) (j : ℕ) (h : j < length (shape_list ss)) where
  source_part : (cs : List (Bor Column)) (s i : ℕ) → All (λ c. type_of c.now ≡ of_struct ss) cs → is_valid (get_or (get_or (rows_of cs) s []) i Null) ≡ true →
      get_or (get_or (field_rows j cs) s []) i Null ≡ part_at j (get_or (get_or (rows_of cs) s []) i Null)
  source_part [] s i types valid = absurd (cc valid)
  source_part (c ∷ cs) zero i types valid = field_row c.now ss j i (types 0 c (omega arith)) h valid
  source_part (c ∷ cs) (suc s) i types valid = source_part cs s i (λ k d below. types (suc k) d (omega (arith, below))) valid

  found_part : (cs : List (Bor Column)) → All (λ c. type_of c.now ≡ of_struct ss) cs → (p : Option (ℕ × ℕ)) → found Null (field_rows j cs) (cleared (rows_of cs) p) ≡ part_at j (found Null (rows_of cs) p)
  found_part cs types None = refl
  found_part cs types (Some p) =
      let v = get_or (get_or (rows_of cs) p.0 []) p.1 Null in
      let one : (b : Bool) → is_valid v ≡ b → found Null (field_rows j cs) (if b then Some p else None) ≡ part_at j v =
      λ b. elim b as (λ x. is_valid v ≡ x → found Null (field_rows j cs) (if x then Some p else None) ≡ part_at j v) [
        | true ↦ λ e. source_part cs p.0 p.1 types e
        | false ↦ λ e. sym (ap (part_at j) (only_null v e))
      ]
      in
      one (is_valid v) refl

  -- The values of gathered struct rows are gathered from the fields.
  pub picked_parts : (cs : List (Bor Column)) → All (λ c. type_of c.now ≡ of_struct ss) cs → (ps : List (Option (ℕ × ℕ))) → pick Null (field_rows j cs) (map (cleared (rows_of cs)) ps) ≡ map (part_at j) (pick Null (rows_of cs) ps)
  picked_parts cs types [] = refl
  picked_parts cs types (p ∷ ps) = grind (arith, common_steps, found_part, (picked_parts cs types ps))

  field_length : (cs : List (Bor Column)) (s i : ℕ) → All (λ c. type_of c.now ≡ of_struct ss) cs → All (λ c. IsWellFormed c.now) cs → i < length (get_or (rows_of cs) s []) → i < length (get_or (field_rows j cs) s [])
  field_length [] s i types formed below = absurd (omega (arith, below))
  field_length (c ∷ cs) zero i types formed below =
      let sized = field_formed c.now ss j (types 0 c (omega arith)) (formed 0 c (omega arith)) h in
      omega (arith, below, length-rows c.now, length-rows (field j c.now), sized.0)
  field_length (c ∷ cs) (suc s) i types formed below = field_length cs s i (λ k d more. types (suc k) d (omega (arith, more))) (λ k d more. formed (suc k) d (omega (arith, more))) below

  fit_one : (cs : List (Bor Column)) → All (λ c. type_of c.now ≡ of_struct ss) cs → All (λ c. IsWellFormed c.now) cs → (p : Option (ℕ × ℕ)) → PickFits (rows_of cs) p → PickFits (field_rows j cs) (cleared (rows_of cs) p)
  fit_one cs types formed None fits = tt
  fit_one cs types formed (Some p) fits =
      let v = get_or (get_or (rows_of cs) p.0 []) p.1 Null in
      let one : (b : Bool) → PickFits (field_rows j cs) (if b then Some p else None) =
      λ b. elim b as (λ x. PickFits (field_rows j cs) (if x then Some p else None)) [
        | true ↦ field_length cs p.0 p.1 types formed fits
        | false ↦ tt
      ]
      in
      one (is_valid v)

  pub parts_fit : (cs : List (Bor Column)) → All (λ c. type_of c.now ≡ of_struct ss) cs → All (λ c. IsWellFormed c.now) cs → (ps : List (Option (ℕ × ℕ))) → All (PickFits (rows_of cs)) ps → All (PickFits (field_rows j cs)) (map (cleared (rows_of cs)) ps)
  parts_fit cs types formed ps fits = All-map (PickFits (field_rows j cs)) (cleared (rows_of cs)) ps (λ k d h. fit_one cs types formed (get_or ps k d) (fits k d h))
