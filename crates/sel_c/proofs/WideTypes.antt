-- Rows of a type whose list sizes are too large exceed a limit; no rows of another type exceed none.
use Rattle.std.proofs.lemmas.Grind.{common_steps}
use Rattle.std.proofs.Common.{◌≡◌, ℕ, ◌+◌, ◌≤◌, Bool, true, false, true≢false, ◌||◌, ◌&&◌, List, [], length, map, nat_lt, arith, refl, sym, ◌∙◌}
use Rattle.sel_c.proofs.Common.{depth, flat_map, nat_tests, shape_of, shapes_of_each, widths_fit, all_widths_fit, is_few, Value, any_exceeds_limit, block_in, entries_in, exceeds_max, part_in, exceeds_limit}
use Rattle.sel_arrow.specs.declared.datatype.ArrowDataType.{ArrowDataType, Row_of-ArrowDataType, end_of-ArrowDataType, more_of-ArrowDataType}
use Rattle.sel_arrow.specs.declared.datatype.ArrowDataType.TheVariants.{LargeList', FixedSizeList', Struct'}
use Rattle.sel_text.specs.declared.build.NullSlots.{NullSlots}
use Rattle.sel_text.specs.declared.build.NullSlots.TheVariants.{Zeros}
use Rattle.sel_c.specs.Parsed.{ExceedsAlways}
use Rattle.std.proofs.lemmas.Bool.{or_from, or_right}

-- One of two conditions does not hold.
one_fails : (a b : Bool) → (a && b) ≡ false → (p q : Bool) → (a ≡ false → p ≡ true) → (b ≡ false → q ≡ true) → (p || q) ≡ true
one_fails a b fails p q one other = grind (arith, common_steps)

long_past : (size : ℕ) → is_few size ≡ false → exceeds_max size ≡ true
long_past size many = grind (arith, nat_tests, many)

mutual
  pub wide_past : (beneath : NullSlots) (dtype : ArrowDataType) → widths_fit dtype ≡ false → (rows : List Value) → exceeds_limit beneath (shape_of dtype) rows ≡ true
  wide_past beneath (LargeList' p child) wide rows = or_right (exceeds_max (length rows)) _ (wide_past beneath child wide (flat_map (entries_in beneath) rows))
  wide_past beneath (FixedSizeList' p child size) wide rows =
      one_fails (is_few size) (widths_fit child) wide (exceeds_max (length rows) || exceeds_max size) _ (λ many. or_right (exceeds_max (length rows)) (exceeds_max size) (long_past size many)) (λ deep. wide_past beneath child deep (flat_map (block_in size) rows))
  wide_past beneath (Struct' n fields) wide rows = or_right (exceeds_max (length rows)) _ (any_wide_past beneath fields wide 0 rows)
  wide_past beneath dtype wide rows = absurd (true≢false wide)

  any_wide_past : (beneath : NullSlots) {n : _} (dtypes : Row_of-ArrowDataType n) → all_widths_fit dtypes ≡ false → (place : ℕ) (rows : List Value) → any_exceeds_limit beneath (shapes_of_each dtypes) place rows ≡ true
  any_wide_past beneath end_of-ArrowDataType wide place rows = absurd (true≢false wide)
  any_wide_past beneath (more_of-ArrowDataType dtype dtypes) wide place rows =
      one_fails (widths_fit dtype) (all_widths_fit dtypes) wide _ _ (λ one. wide_past beneath dtype one (map (part_in place) rows)) (λ others. any_wide_past beneath dtypes others (place + 1) rows)

-- Both of two conditions hold.
both_hold : (a b : Bool) → (a && b) ≡ true → (p q : Bool) → (a ≡ true → p ≡ false) → (b ≡ true → q ≡ false) → (p || q) ≡ false
both_hold a b hold p q one other = grind (arith, common_steps)

short_fits : (size : ℕ) → is_few size ≡ true → (exceeds_max 0 || exceeds_max size) ≡ false
short_fits size few = grind (arith, nat_tests, few)

mutual
  pub none_fit : (beneath : NullSlots) (dtype : ArrowDataType) → widths_fit dtype ≡ true → exceeds_limit beneath (shape_of dtype) [] ≡ false
  none_fit beneath (LargeList' p child) fit = none_fit beneath child fit
  none_fit beneath (FixedSizeList' p child size) fit = both_hold (is_few size) (widths_fit child) fit (exceeds_max 0 || exceeds_max size) _ (short_fits size) (none_fit beneath child)
  none_fit beneath (Struct' n fields) fit = each_none_fits beneath fields fit 0
  none_fit beneath dtype fit = refl

  each_none_fits : (beneath : NullSlots) {n : _} (dtypes : Row_of-ArrowDataType n) → all_widths_fit dtypes ≡ true → (place : ℕ) → any_exceeds_limit beneath (shapes_of_each dtypes) place [] ≡ false
  each_none_fits beneath end_of-ArrowDataType fit place = refl
  each_none_fits beneath (more_of-ArrowDataType dtype dtypes) fit place =
      both_hold (widths_fit dtype) (all_widths_fit dtypes) fit _ _ (none_fit beneath dtype) (λ others. each_none_fits beneath dtypes others (place + 1))

-- A type that is not nested too deeply and whose list sizes are not too large exceeds no limit.
pub exceeds_not_always : (dtype : ArrowDataType) → widths_fit dtype ≡ true → depth (shape_of dtype) ≤ 64 → ExceedsAlways (shape_of dtype) → ⊥
exceeds_not_always dtype fit levels always =
    let shallow : nat_lt 64 (depth (shape_of dtype)) ≡ false = grind (arith, nat_tests, levels) in
    true≢false (sym (always []) ∙ or_from (nat_lt 64 (depth (shape_of dtype))) (exceeds_limit Zeros (shape_of dtype) []) shallow (none_fit Zeros dtype fit))
