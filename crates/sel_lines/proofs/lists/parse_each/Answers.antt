use Rattle.std.proofs.Common.{◌++◌, ◌∷◌, [], ◌∙◌, ap, sym, option_map}
use Rattle.sel_lines.proofs.{Common.list_of_word, Common.shown_list, RowLemmas.rows_step}
use Rattle.sel_lines.proofs.lists.parse_each.Goals as goal

pub loop-word-preserved : goal.loop-word-preserved
loop-word-preserved c =
    let read = c.loop-word.invariant.0 in (
      read ++ shown_list c.in-Some.row ∷ [],
      rows_step (λ word. list_of_word word.now) c.args.words.now c.loop-word.word-index _ read (shown_list c.in-Some.row) c.loop-word-test.true c.loop-word.invariant.1
          (sym c.in_ok-row.ensures ∙ ap (option_map shown_list) c.in-Some.is),
      c.in_ok-push_row.ensures read c.loop-word.invariant.2,
    )
