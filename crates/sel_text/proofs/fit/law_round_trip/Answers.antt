use Rattle.std.proofs.Common.{rules, ◌∙◌, ap, sym}
use Rattle.sel_text.proofs.Common.{shape_of, rows, type_of, exceeds_limit}
use Rattle.sel_text.proofs.RoundTrip.{column_fits_again, fit_again, rows_again, rows_told}
use Rattle.sel_text.proofs.fit.law_round_trip.Goals as goal

pub returns-in-Ok-parse_column : goal.returns-in-Ok-parse_column
returns-in-Ok-parse_column c =
    let s = type_of c.args.column.now in
    let t = shape_of c.in-Ok.dtype in
    let vs = rows c.args.column.now in
    let same = c.in-Ok.ensures.dtype in
    let told = rows_told s t vs c.deref.result.now _ c.law_rows_fit.ensures same c.deref.ensures c.in-Ok-print_rows.ensures.text in
    let again = c.in-Ok-parse_column.again.column in
    let fitted = column_fits_again s t c.as_column.result.now again c.law_rows_fit-in-Ok-parse_column.ensures c.as_column.ensures.column c.in-Ok-parse_column.ensures.dtype same in
    record {
      rows = rows_again s t vs (rows again) c.deref.result.now c.law_rows_fit.ensures fitted same told c.in-Ok-parse_column.ensures.text;
      dtype = search rules;
      levels = search rules;
      within = ap (λ u. exceeds_limit c.args.beneath u vs) (sym same) ∙ c.in-Ok-parse_column.ensures.within vs (fit_again s t vs c.law_rows_fit.ensures same) told;
      refused = tt;
      limit = tt;
    }

pub returns : goal.returns
returns c =
    let s = type_of c.args.column.now in
    let t = shape_of c.in-Ok.dtype in
    let vs = rows c.args.column.now in
    let same = c.in-Ok.ensures.dtype in
    let told = rows_told s t vs c.deref.result.now _ c.law_rows_fit.ensures same c.deref.ensures c.in-Ok-print_rows.ensures.text in
    let fit = fit_again s t vs c.law_rows_fit.ensures same in
    record {
      rows = tt;
      dtype = tt;
      levels = tt;
      within = tt;
      refused = c.in-Err-parse_column.ensures.refused vs fit told;
      limit = λ is few. ap (λ u. exceeds_limit c.args.beneath u vs) (sym same) ∙ c.in-Err-parse_column.ensures.limit is vs fit told;
    }
