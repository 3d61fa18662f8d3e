-- Children and fields of a well-formed column are well-formed.
use Rattle.std.proofs.Common.{◌≡◌, ℕ, ◌<◌, true, length, arith, Option, Vec, Global, sym, ap, ◌∙◌}
use Rattle.sel_c.proofs.Common.{type_of, well_formed, all_well_formed, Bits, Column, Struct, child, is_listing, field, fields_of}
use Rattle.sel_arrow.{specs.declared.column.Column.TheVariants.Struct', proofs.NestedRows.struct_covered}
use Rattle.sel_gather.proofs.{Below.child_formed, FieldsOf.fields_of-Struct, TupleRows.formed_in}

pub field_is_formed : (c : Column) (j : ℕ) → well_formed c ≡ true → j < length (fields_of c) → well_formed (field j c) ≡ true
field_is_formed (Struct' len n fields validity) j formed h = (formed_in _ fields len j (Struct' len n fields validity) (struct_covered len validity (all_well_formed len fields) formed).2 h).1
field_is_formed c j formed h = absurd (omega (arith, h))

pub child_is_formed : (c : Column) → well_formed c ≡ true → is_listing (type_of c) ≡ true → well_formed (child c) ≡ true
child_is_formed c formed is = child_formed c is formed

pub fields_found : (c : Column) (len : ℕ) (fields : Vec Column Global) (validity : Option Bits) → c ≡ Struct len fields validity → fields.items ≡ fields_of c
fields_found c len fields validity is = sym (ap fields_of is ∙ fields_of-Struct len fields validity)

-- A column that is the field is well-formed.
pub part_is_formed : (c x : Column) (j : ℕ) → x ≡ field j c → well_formed c ≡ true → j < length (fields_of c) → well_formed x ≡ true
part_is_formed c x j same formed h = ap well_formed same ∙ field_is_formed c j formed h

pub ruleset below = (part_is_formed, child_is_formed, fields_found)
