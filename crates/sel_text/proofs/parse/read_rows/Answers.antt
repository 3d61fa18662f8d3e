use Rattle.std.proofs.Common.{Ok, [], ap, sym, ◌∙◌, length, map, true≢false, subst, ◌==◌}
use Rattle.sel_text.proofs.Common.{list_all, shape_of, values_of, fits, item_value, exceeds_limit, MakesColumn, ReportsLimit, text_of}
use Rattle.sel_text.proofs.{Equalities.list_back, Making.told_wanting, Rows.rows_text, Told.all_fits}
use Rattle.sel_text.proofs.parse.read_rows.Goals as goal

pub returns-in-Err-clause-made : goal.returns-in-Err-clause-made
returns-in-Err-clause-made c = λ values fit is.
    told_wanting _ _ (c.no_limit.ensures.memory (c.in-Err.ensures (values_of values) [] (all_fits _ values fit) (rows_text _ values _ is)))

pub returns-then-not-is_empty-clause-made : goal.returns-then-not-is_empty-clause-made
returns-then-not-is_empty-clause-made c = λ values fit is.
    let told = c.in-Ok.ensures (values_of values) [] (all_fits _ values fit) (rows_text _ values _ is) in
    true≢false (sym (c.is_empty.ensures ∙ ap (λ rest. length rest == 0) told.1) ∙ c.if-not-is_empty.true)

pub returns-in-Ok-build_rows-clause-made : goal.returns-in-Ok-build_rows-clause-made
returns-in-Ok-build_rows-clause-made c = λ values fit is.
    let s = shape_of c.args.dtype.now in
    let told = c.in-Ok.ensures (values_of values) [] (all_fits s values fit) (rows_text s values _ is) in
    let same = ap (map item_value) c.deref.ensures.value ∙ told.0 ∙ list_back values in
    subst (λ vs. MakesColumn c.args.beneath s vs (Ok c.in-Ok-build_rows.array)) same (c.in-Ok-build_rows.ensures (ap (list_all (fits s)) same ∙ fit))

pub returns-clause-made : goal.returns-clause-made
returns-clause-made c = λ values fit is.
    let s = shape_of c.args.dtype.now in
    let told = c.in-Ok.ensures (values_of values) [] (all_fits s values fit) (rows_text s values _ is) in
    let read = told.0 ∙ list_back values in
    let built = ap (map item_value) c.deref.ensures.value ∙ read in
    let seen = ap (map item_value) c.deref-in-Err-build_rows.ensures.value ∙ read in
    let past = subst (λ vs. ReportsLimit (exceeds_limit c.args.beneath s vs) c.in-Err-build_rows.fault) built (c.in-Err-build_rows.ensures (ap (list_all (fits s)) built ∙ fit)) in
    c.of_rows.ensures.told _ (ap (list_all (fits s)) seen ∙ fit) (is ∙ ap (text_of s) (sym seen)) past
