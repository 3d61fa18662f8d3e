use Rattle.std.proofs.{Common.[], Common.sym, Common.◌==◌, Common.subst, lemmas.Bool.cond-true}
use Rattle.sel_lines.proofs.{Common.IfOk-weaker, Common.block_of, Common.IsReadingBlocks, RowLemmas.parts_read}
use Rattle.sel_lines.proofs.blocks.parse_blocks.Goals as goal

pub returns-then-eq : goal.returns-then-eq
returns-then-eq c = ([], cond-true _ _ _ (sym c.if-eq.ensures), c.no_blocks.ensures c.args.width)

pub returns : goal.returns
returns c =
    IfOk-weaker c.parse_each.result _ _
    (λ blocks made. subst (λ rows. IsReadingBlocks c.args.width rows blocks)
    (parts_read (block_of c.args.width) (λ b. b == 124) _ c.args.word.now _ _ c.if-eq.ensures
    c.deref.ensures.value c.in_ok-words.ensures.parts) made)
    c.parse_each.ensures
