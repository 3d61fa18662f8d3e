use Rattle.std.proofs.Common.{◌∙◌, sym, ap, map, length, arith, option_map}
use Rattle.sel_lines.proofs.{Common.length-map, Common.bytes_needed, Common.text_row, FewItems.few_texts}
use Rattle.sel_lines.proofs.texts.parse_texts.Goals as goal

pub of_rows-requires : goal.of_rows-requires
of_rows-requires c =
    let rows = c.in-Some.rows.items in
    let read = sym (ap (option_map (λ rows. map text_row rows.items)) c.in-Some.is) ∙ c.in_ok-rows.ensures in
    let few = few_texts c.args.word.now (map text_row rows) read in
    record {
      few = omega (arith, few.0, ap length c.deref.ensures.value, length-map rows text_row);
      bytes = omega (arith, few.1, ap (λ rows. bytes_needed (map text_row rows)) c.deref.ensures.value);
    }
