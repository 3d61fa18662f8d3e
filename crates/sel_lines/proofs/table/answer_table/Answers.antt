use Rattle.std.proofs.Common.{◌<◌, ◌∙◌, None, Some, ap, arith, length, pos, sym, option_map}
use Rattle.sel_lines.proofs.Common.{IfOk-weaker, Number, Truth, parsed_rows, rows_of_arrays}
use Rattle.sel_lines.{specs.Table.table_answer, proofs.TableWords.rest_is, proofs.TableWords.table_words_read}
use Rattle.sel_lines.proofs.table.answer_table.Goals as goal

pub returns-in_default-3 : goal.returns-in_default-3
returns-in_default-3 c =
    let words = c.args.words.now in
    let some : 2 < length words = omega (arith, c.if-words-lt3.false) in
    let mask = sym (ap (option_map (parsed_rows Truth)) c.in-Some.is) ∙ c.in_ok-mask.ensures in
    let indices = sym (ap (option_map (parsed_rows (λ n. Number (pos n)))) c.in-Some-2.is) ∙ c.in_ok-indices.ensures in
    let none = sym (ap (option_map (λ columns. rows_of_arrays columns.items)) c.in_default-3.is) ∙ c.in_ok-columns.ensures.rows in
    table_words_read words _ _ _ _ None some (rest_is words 2) mask indices none

pub returns : goal.returns
returns c =
    let words = c.args.words.now in
    let some : 2 < length words = omega (arith, c.if-words-lt3.false) in
    let mask = sym (ap (option_map (parsed_rows Truth)) c.in-Some.is) ∙ c.in_ok-mask.ensures in
    let indices = sym (ap (option_map (parsed_rows (λ n. Number (pos n)))) c.in-Some-2.is) ∙ c.in_ok-indices.ensures in
    let read = sym (ap (option_map (λ columns. rows_of_arrays columns.items)) c.in-Some-3.is) ∙ c.in_ok-columns.ensures.rows in
    let m = parsed_rows Truth c.in-Some.mask in
    let i = parsed_rows (λ n. Number (pos n)) c.in-Some-2.indices in
    IfOk-weaker c.answer_columns-answer.result _ _
    (λ answer made. made ∙ ap (λ columns. table_answer m i (rows_of_arrays columns)) c.deref.ensures.value
    ∙ table_words_read words _ _ m i (Some (rows_of_arrays c.in-Some-3.columns.items)) some (rest_is words 2) mask indices read)
    c.answer_columns-answer.ensures
