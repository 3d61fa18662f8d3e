use Rattle.std.proofs.Common.{rules, arith, ◌∙◌, sym, ap}
use Rattle.std.proofs.lemmas.List.Elements.{All-push}
use Rattle.sel_arrow.specs.DataType.{shape_of}
use Rattle.sel_arrow.specs.Rows.{IsField, type_of}
use Rattle.sel_arrow.specs.Shape.{of_struct, shapes_of}
use Rattle.sel_arrow.specs.declared.datatype.ArrowDataType.{the_lemmas}
use Rattle.sel_arrow.proofs.{NoRows.field_of_none, NoRows.fields_fit, NestedParts.mapped_more, Types.struct_shape}
use Rattle.sel_arrow.proofs.empty.+empty_column.Goals as goal

pub empty_column-returns-in_ok-empty_columns-in-Struct :
    goal.empty_column-returns-in_ok-empty_columns-in-Struct
empty_column-returns-in_ok-empty_columns-in-Struct t c =
    let same = rw c.deref-in-Struct.ensures.value at c.in_ok-empty_columns-in-Struct.ensures.dtypes in
    record {
      rows = c.no_struct_rows.ensures.rows;
      dtype = c.no_struct_rows.ensures.dtype ∙ ap (λ l. of_struct (shapes_of l)) same ∙ sym (struct_shape _ _ c.in-Struct.is);
      formed = c.no_struct_rows.ensures.formed;
      refusal = tt;
    }

pub empty_column-empty_columns-requires : goal.empty_column-empty_columns-requires
empty_column-empty_columns-requires t c =
    (search (rules, the_lemmas), fields_fit _ _ _ c.in-Struct.is c.deref-in-Struct.ensures.value c.requires)

pub empty_columns-loop-dtype-preserved : goal.empty_columns-loop-dtype-preserved
empty_columns-loop-dtype-preserved t c =
    let column = c.in_ok-empty_column in
    let pushed = c.in_ok-push.ensures.items in
    let one = field_of_none column.field-0 column.ensures.rows column.ensures.formed in
    record {
      dtypes = mapped_more type_of shape_of c.args.dtypes.now c.loop-dtype.columns.items _ c.loop-dtype.dtype-index c.dtype-item.result column.field-0 (omega arith) c.dtype-item.is pushed column.ensures.dtype c.loop-dtype.invariant.dtypes;
      fields = rw pushed (All-push (IsField 0) c.loop-dtype.columns.items column.field-0 c.loop-dtype.invariant.fields one);
    }
