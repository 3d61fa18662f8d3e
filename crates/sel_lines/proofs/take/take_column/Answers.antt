use Rattle.std.proofs.{Common.◌∙◌, Common.Some, Common.sym, Common.ap, lemmas.Bool.cond-true}
use Rattle.sel_lines.proofs.Common.{all_within, primitive_rows, column_text}
use Rattle.sel_lines.proofs.take.take_column.Goals as goal

pub returns-clause-rows : goal.returns-clause-rows
returns-clause-rows c =
    let within = ap (λ n. all_within n (primitive_rows c.args.indices.now)) (sym c.len.ensures.len) ∙ sym c.indices_in_bounds.ensures ∙ c.if-not-indices_in_bounds.false in
    ap (λ taken. Some (column_text taken)) c.in_ok-take_primitive_unchecked.ensures.rows ∙ sym (cond-true _ _ _ within)
