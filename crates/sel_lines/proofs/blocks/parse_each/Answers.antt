use Rattle.std.proofs.Common.{◌++◌, ◌∷◌, [], ◌∙◌, ap, refl, sym, option_map}
use Rattle.sel_lines.proofs.{Common.block_of, Common.shown_list, RowLemmas.rows_step}
use Rattle.sel_lines.proofs.blocks.parse_each.Goals as goal

pub loop-word-init : goal.loop-word-init
loop-word-init c = ([], refl, c.no_blocks-blocks.ensures c.args.width)

pub loop-word-preserved : goal.loop-word-preserved
loop-word-preserved c =
    let read = c.loop-word.invariant.0 in (
      read ++ shown_list c.in-Some.row ∷ [],
      rows_step (λ word. block_of c.args.width word.now) c.args.words.now c.loop-word.word-index _ read (shown_list c.in-Some.row) c.loop-word-test.true c.loop-word.invariant.1
          (sym c.in_ok-row.ensures ∙ ap (option_map shown_list) c.in-Some.is),
      c.in_ok-push_row.ensures read c.loop-word.invariant.2,
    )
