use Rattle.std.proofs.Common.{All, rules, subst, sym, take_all}
use Rattle.sel_text.proofs.{Common.the_lemmas, Common.All-more, Common.IsWellFormed, Common.RowsFit, FittingRows.fields_formed}
use Rattle.sel_text.proofs.fit.+fitting.Goals as goal

pub law_rows_fit-law_fields_fit-requires : goal.law_rows_fit-law_fields_fit-requires
law_rows_fit-law_fields_fit-requires t c =
    (search (rules, the_lemmas), subst (All IsWellFormed) (sym c.deref-in-Struct.ensures.value) (fields_formed _ _ _ _ c.in-Struct.is c.requires))

pub law_fields_fit-loop-field-preserved : goal.law_fields_fit-loop-field-preserved
law_fields_fit-loop-field-preserved t c =
    All-more RowsFit c.args.fields.now c.loop-field.field-index c.field-item.result c.loop-field-test.true c.loop-field.invariant (subst RowsFit c.field-item.is c.law_rows_fit.ensures)

pub law_fields_fit-returns : goal.law_fields_fit-returns
law_fields_fit-returns t c = subst (All RowsFit) (take_all c.loop-field.field-index c.args.fields.now c.loop-field-test.false) c.loop-field.invariant
