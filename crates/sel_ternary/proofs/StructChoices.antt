-- If-then-else of struct columns without a validity, field by field.
use Rattle.sel_ternary.proofs.Common.{common_steps, ◌≡◌, All, ℕ, zero, suc, ◌<◌, ◌≤◌, Bool, true, List, [], ◌∷◌, length, map, replicate, Option, Some, None}
use Rattle.sel_ternary.proofs.Common.{refl, ap, sym, subst, ◌∙◌, arith, get_or, rows, type_of, well_formed, Shape, of_null, of_struct, shape_list, Value, Null}
use Rattle.sel_ternary.proofs.Common.{Column, length-rows, field, part_at, ExceedsNone, IsLimitOrMemory, exceeded_taken, pick, refused_more, size_of}
use Rattle.sel_ternary.proofs.Common.{chosen_rows}
use Rattle.sel_bits.specs.declared.faults.PolarsError.{PolarsError}
use Rattle.sel_ternary.specs.{ChosenPicks.chosen_picks, Chosen.SideFits, Structs.is_bare}
use Rattle.sel_arrow.specs.{Rows.buffers_held, Rows.rows_of_each, Rows.types_of_each, Nested.struct_at, Value.is_valid, Value.validities}
use Rattle.sel_arrow.specs.{declared.column.Column.TheVariants.Struct', Shape.Shapes, Shape.no_shapes, Shape.next_shape}
use Rattle.std.{specs.List.range_with_len, proofs.lemmas.List.Elements.All-head, proofs.lemmas.List.Elements.All-tail}
use Rattle.sel_gather.specs.{Children.fields_of}
use Rattle.sel_runs.specs.Plans.{IsPicked}
use Rattle.sel_runs.specs.Picks.{found, PickFits}
use Rattle.sel_gather.proofs.{Depths.sizes_of, Layouts.rows_tuples, Rebuilt.IsTuple, Rebuilt.picked_all}
use Rattle.sel_runs.proofs.RunLists.{length-pick}
use Rattle.sel_gather.proofs.TupleRows.{field_row, field_type, field_formed}
use Rattle.sel_ternary.proofs.ChosenPicks.{choice_fits, choice_picked, chosen_long, chosen_picked}
use Rattle.sel_ternary.proofs.SameNeeds.{AllLike, fields_long, same_needs, turned}

-- ---- the types of the fields

abbrev pub shapes_in : Column → Shapes
shapes_in (Struct' len n fields validity) = types_of_each fields
shapes_in column = no_shapes

pub bare_type : (c : Column) → is_bare c ≡ true → type_of c ≡ of_struct (shapes_in c)
bare_type (Struct' len n fields None) is = refl
bare_type c is = absurd (cc is)

pub bare_count : (c : Column) → is_bare c ≡ true → length (fields_of c) ≡ length (shape_list (shapes_in c))
bare_count (Struct' len n fields None) is = sym (fields_long _ fields)
bare_count c is = absurd (cc is)

abbrev shapes_below : Shape → Shapes
shapes_below (of_struct ss) = ss
shapes_below s = no_shapes

pub same_shapes : (c : Column) (ss : Shapes) → is_bare c ≡ true → type_of c ≡ of_struct ss → shapes_in c ≡ ss
same_shapes c ss bare is = ap shapes_below (sym (bare_type c bare) ∙ is)

-- A field has a smaller type than the struct.
shape_size : (ss : Shapes) (j : ℕ) → j < length (shape_list ss) → size_of (get_or (shape_list ss) j of_null) ≤ sizes_of ss
shape_size no_shapes j h = absurd (omega (arith, h))
shape_size (next_shape s ss) zero h = omega arith
shape_size (next_shape s ss) (suc j) h = let rest = shape_size ss j (omega (arith, h)) in omega (arith, rest)

pub field_size : (c : Column) (j : ℕ) → is_bare c ≡ true → j < length (fields_of c) → size_of (type_of (field j c)) < size_of (type_of c)
field_size c j bare h =
    let inside : j < length (shape_list (shapes_in c)) = omega (arith, h, bare_count c bare) in
    let small = shape_size (shapes_in c) j inside in
    let whole = ap size_of (bare_type c bare) in
    let one = ap size_of (field_type c (shapes_in c) j of_null (bare_type c bare) inside) in
    omega (arith, small, whole, one)

-- ---- no row is null

valid_tuples : (fs : List (List Value)) (is : List ℕ) (k : ℕ) → k < length (map (struct_at fs) is) → is_valid (get_or (map (struct_at fs) is) k Null) ≡ true
valid_tuples fs [] k h = absurd (omega (arith, h))
valid_tuples fs (i ∷ is) zero h = refl
valid_tuples fs (i ∷ is) (suc k) h = valid_tuples fs is k (omega (arith, h))

valid_row : (c : Column) → is_bare c ≡ true → (k : ℕ) → k < length (rows c) → is_valid (get_or (rows c) k Null) ≡ true
valid_row (Struct' len n fields None) bare k h = valid_tuples (rows_of_each fields) (range_with_len 0 len) k h
valid_row c bare k h = absurd (cc bare)

module _ (t f : Column) where
  abbrev sides : List (List Value)
  sides = rows t ∷ rows f ∷ []

  valid_side : is_bare t ≡ true → is_bare f ≡ true → (p : Option (ℕ × ℕ)) → IsPicked p → PickFits sides p → is_valid (found Null sides p) ≡ true
  valid_side one two None picked fits = absurd picked
  valid_side one two (Some (zero, k)) picked fits = valid_row t one k fits
  valid_side one two (Some (suc zero, k)) picked fits = valid_row f two k fits
  valid_side one two (Some (suc (suc s), k)) picked fits = absurd (omega (arith, fits))

  -- Gathered valid rows are valid.
  valid_picks : is_bare t ≡ true → is_bare f ≡ true → (ps : List (Option (ℕ × ℕ))) → All (PickFits sides) ps → All IsPicked ps → replicate (length ps) true ≡ validities (pick Null sides ps)
  valid_picks one two [] fits picked = refl
  valid_picks one two (p ∷ ps) fits picked =
      let valid = valid_side one two p (All-head IsPicked p ps picked) (All-head (PickFits sides) p ps fits) in
      let rest = valid_picks one two ps (All-tail (PickFits sides) p ps fits) (All-tail IsPicked p ps picked) in
      ap (λ b. b ∷ replicate (length ps) true) (sym valid) ∙ ap (λ l. is_valid (found Null sides p) ∷ l) rest

  side_tuples : (ss : Shapes) → type_of t ≡ of_struct ss → type_of f ≡ of_struct ss → (i k : ℕ) → IsTuple (length (shape_list ss)) (get_or (get_or sides i []) k Null)
  side_tuples ss one two zero k = rows_tuples t ss one k
  side_tuples ss one two (suc zero) k = rows_tuples f ss two k
  side_tuples ss one two (suc (suc i)) k = tt

  abbrev parts : ℕ → List (List Value)
  parts j = rows (field j t) ∷ rows (field j f) ∷ []

  part_found : (ss : Shapes) (j : ℕ) → type_of t ≡ of_struct ss → type_of f ≡ of_struct ss → j < length (shape_list ss) → (p : Option (ℕ × ℕ)) → is_valid (found Null sides p) ≡ true →
      found Null (parts j) p ≡ part_at j (found Null sides p)
  part_found ss j one two h None valid = refl
  part_found ss j one two h (Some (zero, k)) valid = field_row t ss j k one h valid
  part_found ss j one two h (Some (suc zero, k)) valid = field_row f ss j k two h valid
  part_found ss j one two h (Some (suc (suc s), k)) valid = refl

  parts_picked : (ss : Shapes) (j : ℕ) → type_of t ≡ of_struct ss → type_of f ≡ of_struct ss → is_bare t ≡ true → is_bare f ≡ true → j < length (shape_list ss) →
      (ps : List (Option (ℕ × ℕ))) → All (PickFits sides) ps → All IsPicked ps → pick Null (parts j) ps ≡ map (part_at j) (pick Null sides ps)
  parts_picked ss j one two bare other h [] fits picked = refl
  parts_picked ss j one two bare other h (p ∷ ps) fits picked =
      let here = part_found ss j one two h p (valid_side bare other p (All-head IsPicked p ps picked) (All-head (PickFits sides) p ps fits)) in
      let rest = parts_picked ss j one two bare other h ps (All-tail (PickFits sides) p ps fits) (All-tail IsPicked p ps picked) in
      ap (λ v. v ∷ pick Null (parts j) ps) here ∙ ap (λ l. part_at j (found Null sides p) ∷ l) rest

-- ---- the rows and their fields

module _ (x y : Column) (t f : Bool) (bits : List Bool) (true_bare : is_bare x ≡ true) (false_bare : is_bare y ≡ true)
    (ss : Shapes) (true_type : type_of x ≡ of_struct ss) (false_type : type_of y ≡ of_struct ss)
    (true_side : SideFits t (length (rows x)) (length bits)) (false_side : SideFits f (length (rows y)) (length bits)) where
  abbrev picks : List (Option (ℕ × ℕ))
  picks = chosen_picks t f 0 bits

  abbrev chosen : List Value
  chosen = chosen_rows t f bits (rows x) (rows y)

  fit : All (PickFits (sides x y)) picks
  fit = choice_fits t f bits (rows x) (rows y) true_side false_side

  is_chosen : pick Null (sides x y) picks ≡ chosen
  is_chosen = choice_picked t f bits (rows x) (rows y) true_side false_side

  pub chosen_count : length chosen ≡ length bits
  chosen_count = ap length (sym is_chosen) ∙ length-pick Null (sides x y) picks ∙ chosen_long t f 0 bits

  pub chosen_valid : replicate (length bits) true ≡ validities chosen
  chosen_valid = grind (arith, common_steps, chosen_long, valid_picks, fit, chosen_picked, is_chosen)

  pub chosen_tuples : (k : ℕ) → IsTuple (length (shape_list ss)) (get_or chosen k Null)
  chosen_tuples k = subst (λ (l : List Value). IsTuple (length (shape_list ss)) (get_or l k Null)) is_chosen
      (picked_all (IsTuple (length (shape_list ss))) tt (sides x y) (side_tuples x y ss true_type false_type) picks k)

  side_below : (c : Column) (b : Bool) (j : ℕ) → type_of c ≡ of_struct ss → well_formed c ≡ true → j < length (shape_list ss) → SideFits b (length (rows c)) (length bits) → SideFits b (length (rows (field j c))) (length bits)
  side_below c b j is formed h side =
      let sized = field_formed c ss j is formed h in
      let same : length (rows (field j c)) ≡ length (rows c) = length-rows (field j c) ∙ sized.0 ∙ sym (length-rows c) in
      subst (λ n. SideFits b n (length bits)) (sym same) side

  module _ (j : ℕ) (h : j < length (shape_list ss)) (true_formed : well_formed x ≡ true) (false_formed : well_formed y ≡ true) where
    pub field_true_side : SideFits t (length (rows (field j x))) (length bits)
    field_true_side = side_below x t j true_type true_formed h true_side

    pub field_false_side : SideFits f (length (rows (field j y))) (length bits)
    field_false_side = side_below y f j false_type false_formed h false_side

    -- The if-then-else of the fields are the fields of the if-then-else.
    pub field_chosen : chosen_rows t f bits (rows (field j x)) (rows (field j y)) ≡ map (part_at j) chosen
    field_chosen =
        sym (choice_picked t f bits (rows (field j x)) (rows (field j y)) field_true_side field_false_side)
        ∙ parts_picked x y ss j true_type false_type true_bare false_bare h picks fit (chosen_picked t f 0 bits) ∙ ap (map (part_at j)) is_chosen

-- ---- copies of the fields

-- A column with the rows, the type and the data buffers of another one.
pub record IsCopy (a c : Column) : Type 0 where
  pub same_rows : rows a ≡ rows c
  pub same_type : type_of a ≡ type_of c
  pub same_held : buffers_held a ≡ buffers_held c

pub copy_of : (a b c : Column) → rows a ≡ rows b → type_of a ≡ type_of b → buffers_held a ≡ buffers_held b → b ≡ c → IsCopy a c
copy_of a b c same_rows same_type same_held is = record { same_rows = same_rows ∙ ap rows is; same_type = same_type ∙ ap type_of is; same_held = same_held ∙ ap buffers_held is }

module _ (x y : Column) (t f : Bool) (bits : List Bool) (true_bare : is_bare x ≡ true) (false_bare : is_bare y ≡ true) (same : type_of x ≡ type_of y)
    (true_side : SideFits t (length (rows x)) (length bits)) (false_side : SideFits f (length (rows y)) (length bits))
    (j : ℕ) (h : j < length (fields_of x)) (true_formed : well_formed x ≡ true) (false_formed : well_formed y ≡ true) where
  abbrev ss : Shapes
  ss = shapes_in x

  abbrev chosen_part : List Value
  chosen_part = map (part_at j) (chosen_rows t f bits (rows x) (rows y))

  true_type : type_of x ≡ of_struct ss
  true_type = bare_type x true_bare

  false_type : type_of y ≡ of_struct ss
  false_type = sym same ∙ true_type

  there : j < length (shape_list ss)
  there = omega (arith, h, bare_count x true_bare)

  pub first_formed : well_formed (field j x) ≡ true
  first_formed = (field_formed x ss j true_type true_formed there).1

  pub second_formed : well_formed (field j y) ≡ true
  second_formed = (field_formed y ss j false_type false_formed there).1

  types_alike : type_of (field j y) ≡ type_of (field j x)
  types_alike = field_type y ss j of_null false_type there ∙ sym (field_type x ss j of_null true_type there)

  module _ (a b : Column) (first : IsCopy a (field j x)) (second : IsCopy b (field j y)) where
    pub copies_alike : type_of a ≡ type_of b
    copies_alike = first.same_type ∙ sym types_alike ∙ sym second.same_type

    pub copy_true_side : SideFits t (length (rows a)) (length bits)
    copy_true_side = subst (λ (l : List Value). SideFits t (length l) (length bits)) (sym first.same_rows) (field_true_side x y t f bits true_bare false_bare ss true_type false_type true_side false_side j there true_formed false_formed)

    pub copy_false_side : SideFits f (length (rows b)) (length bits)
    copy_false_side = subst (λ (l : List Value). SideFits f (length l) (length bits)) (sym second.same_rows) (field_false_side x y t f bits true_bare false_bare ss true_type false_type true_side false_side j there true_formed false_formed)

    pub copies_chosen : chosen_rows t f bits (rows a) (rows b) ≡ chosen_part
    copies_chosen = grind (arith, common_steps, first, second, field_chosen, true_type, false_type, there)

    -- The rows exceed the same limits with copies of the columns.
    copied : AllLike (type_of (field j x)) (a ∷ b ∷ []) (field j x ∷ field j y ∷ [])
    copied = grind (arith, common_steps, types_alike)

    pub copies_pass : ExceedsNone (exceeded_taken (type_of a) (a ∷ b ∷ []) (chosen_rows t f bits (rows a) (rows b))) → ExceedsNone (exceeded_taken (type_of (field j x)) (field j x ∷ field j y ∷ []) chosen_part)
    copies_pass none limit past =
        none limit (rw (first.same_type, copies_chosen) (same_needs (type_of (field j x)) (field j x ∷ field j y ∷ []) (a ∷ b ∷ []) (turned (type_of (field j x)) (a ∷ b ∷ []) (field j x ∷ field j y ∷ []) copied) chosen_part limit past))

    pub copies_refused : (fault : PolarsError) → IsLimitOrMemory (exceeded_taken (type_of a) (a ∷ b ∷ []) (chosen_rows t f bits (rows a) (rows b))) fault →
        IsLimitOrMemory (exceeded_taken (type_of (field j x)) (field j x ∷ field j y ∷ []) chosen_part) fault
    copies_refused fault refused =
        refused_more _ _ fault (λ limit past. same_needs (type_of (field j x)) (a ∷ b ∷ []) (field j x ∷ field j y ∷ []) copied chosen_part limit (rw (first.same_type, copies_chosen) at past)) refused
