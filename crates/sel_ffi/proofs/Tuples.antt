-- Struct columns over the fields that callers pass.
use Rattle.std.proofs.{Common.◌≡◌, Common.List, Common.map, Common.ap, Common.◌∙◌, lemmas.Simd.map-map}
use Rattle.sel_arrow.{specs.Nested.struct_rows, specs.NestedArrays.struct_column, specs.declared.structure.StructArray.StructArray, proofs.Trees.rows-Struct}
use Rattle.sel_arrow.proofs.Types.{type_of-Struct}
use Rattle.sel_ffi.proofs.Common.{rows, type_of, of_struct, shapes_of, ArrayRef}

pub tuple_column_rows : (array : StructArray) (fields : List ArrayRef) → array.fields.items ≡ map (λ field. field.column) fields → rows (struct_column array) ≡ struct_rows array.len (map (λ field. rows field.column) fields) array.validity
tuple_column_rows array fields same = rows-Struct array.len array.fields array.validity ∙ ap (λ l. struct_rows array.len l array.validity) (ap (map rows) same ∙ map-map rows (λ (field : ArrayRef). field.column) fields)

pub tuple_column_type : (array : StructArray) (fields : List ArrayRef) → array.fields.items ≡ map (λ field. field.column) fields → type_of (struct_column array) ≡ of_struct (shapes_of (map (λ field. type_of field.column) fields))
tuple_column_type array fields same = type_of-Struct array.len array.fields array.validity ∙ ap (λ l. of_struct (shapes_of l)) (ap (map type_of) same ∙ map-map type_of (λ (field : ArrayRef). field.column) fields)

pub ruleset tuples = (tuple_column_rows, tuple_column_type)
