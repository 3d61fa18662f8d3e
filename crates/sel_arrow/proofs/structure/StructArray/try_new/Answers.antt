use Rattle.std.proofs.Common.{◌≡◌, ◌==◌, ◌∙◌, ap, sym, map, Bool, List, ℕ}
use Rattle.sel_arrow.proofs.Common.{list_all, list_all-map, struct_length_fault, row_count, ArrayRef, Column}
use Rattle.sel_arrow.proofs.NestedMakers.{tuples_make}
use Rattle.sel_arrow.proofs.structure.StructArray.try_new.Goals as goal

-- Whether each field has `len` rows, from the numbers of rows and from the columns.
by_counts : (len : ℕ) (arrays seen : List ArrayRef) (fit : Bool) → fit ≡ list_all (λ array. row_count array.column == len) seen → seen ≡ arrays → list_all (λ rows. rows == len) (map (λ array. row_count array.column) arrays) ≡ fit
by_counts len arrays seen fit fits is =
    list_all-map (λ rows. rows == len) (λ (array : ArrayRef). row_count array.column) arrays ∙ ap (list_all (λ (array : ArrayRef). row_count array.column == len)) (sym is) ∙ sym fits

by_columns : (len : ℕ) (arrays seen : List ArrayRef) (columns : List Column) (fit : Bool) → fit ≡ list_all (λ array. row_count array.column == len) seen → seen ≡ arrays → columns ≡ map (λ array. array.column) arrays →
    fit ≡ list_all (λ column. row_count column == len) columns
by_columns len arrays seen columns fit fits is are =
    fits ∙ ap (list_all (λ (array : ArrayRef). row_count array.column == len)) is
    ∙ sym (list_all-map (λ (column : Column). row_count column == len) (λ (array : ArrayRef). array.column) arrays)
    ∙ ap (list_all (λ (column : Column). row_count column == len)) (sym are)

pub returns-in-Some-clause-refused : goal.returns-in-Some-clause-refused
returns-in-Some-clause-refused c =
    ap (λ fit. struct_length_fault c.args.len fit c.args.validity) (by_counts c.args.len c.args.fields.items c.deref.result.now c.have_rows-fit.result c.have_rows-fit.ensures c.deref.ensures.value) ∙ sym c.in-Some.ensures

pub returns-in-Ok-clause-accepted : goal.returns-in-Ok-clause-accepted
returns-in-Ok-clause-accepted c =
    ap (λ fit. struct_length_fault c.args.len fit c.args.validity) (by_counts c.args.len c.args.fields.items c.deref.result.now c.have_rows-fit.result c.have_rows-fit.ensures c.deref.ensures.value) ∙ sym c.in_default.ensures

pub returns-in-Err-clause-refused : goal.returns-in-Err-clause-refused
returns-in-Err-clause-refused c =
    ap (λ fit. struct_length_fault c.args.len fit c.args.validity) (by_counts c.args.len c.args.fields.items c.deref.result.now c.have_rows-fit.result c.have_rows-fit.ensures c.deref.ensures.value) ∙ sym c.in_default.ensures

pub invariant_of-result : goal.invariant_of-result
invariant_of-result c =
    record {
      formed =
          tuples_make c.args.len c.in-Ok.fields c.args.validity c.have_rows-fit.result
          (by_columns c.args.len c.args.fields.items c.deref.result.now c.in-Ok.fields.items c.have_rows-fit.result c.have_rows-fit.ensures c.deref.ensures.value c.in-Ok.ensures.columns) c.in-Ok.ensures.formed (sym c.in_default.ensures);
    }
