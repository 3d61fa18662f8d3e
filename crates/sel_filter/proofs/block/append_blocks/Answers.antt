use Rattle.sel_filter.proofs.Common.{◌≡◌, ◌*◌, ◌++◌, refl, arith, length, take, take_rest, bits_from, select}
use Rattle.std.proofs.lemmas.Result.{err_from_is_err_and}
use Rattle.sel_filter.proofs.{Dense.last_fits, Dense.last_kept, Dense.part_kept, RunFiltering.begins_through}
use Rattle.sel_filter.proofs.block.append_blocks.Goals.{then-are_four_full+in_ok-block, else-are_four_full, then-block-len+then-is_mixed, else-block-len}
use Rattle.sel_filter.proofs.block.append_blocks.Goals as goal

pub returns-in_err-append_block-clause-begun : goal.returns-in_err-append_block-clause-begun
returns-in_err-append_block-clause-begun g c = grind (arith, err_from_is_err_and, begins_through)

pub returns-in_err-block-clause-begun : goal.returns-in_err-block-clause-begun
returns-in_err-block-clause-begun g c = grind (arith, err_from_is_err_and, begins_through)

pub loop-block-preserved-then-block-len-2 : goal.loop-block-preserved-then-block-len-2
loop-block-preserved-then-block-len-2 g c =
    let full = c.if-are_four_full.out.items in
    let now = c.if-block-len.out.items in
    let block = c.if-block-len.block in
    let marks = bits_from c.args.bytes.now 0 (length c.args.values.now) in
    let filled : full ≡ c.args.out.now.items ++ select (take (64 * c.if-are_four_full.block) c.args.values.now) (take (64 * c.if-are_four_full.block) marks) = elim c.if-are_four_full.branch [
      | else-are_four_full w ↦ rw (w.out-is, w.block-is) c.loop-block.invariant.kept
      | then-are_four_full+in_ok-block w ↦ rw (w.out-is, w.block-is) (w.in_ok-block.ensures.appended c.args.out.now.items c.loop-block.invariant.kept)
    ]
    in
    let so_far : now ≡ c.args.out.now.items ++ select (take (64 * block) c.args.values.now) (take (64 * block) marks) = elim c.if-block-len.branch [
      | then-block-len+then-is_mixed w ↦ rw (w.out-is, w.block-is) (w.push_mixed-block.ensures.appended c.args.out.now.items filled)
      | else-block-len w ↦ rw (w.out-is, w.block-is) filled
    ]
    in
    record {
      within = omega (arith, c.if-block-len-2.true);
      kept = part_kept c.args.values.now _ c.args.bytes.now 0 _ refl refl (8 * block) (64 * block) 64 c.whole_word-word.result (omega arith) (omega arith) c.whole_word-word.ensures
          c.args.out.now.items now c.append_block.new.out.items _ 64 (omega arith) refl so_far c.in_ok-append_block.ensures.appended;
    }

pub append_few-requires-clause-fits : goal.append_few-requires-clause-fits
append_few-requires-clause-fits g c =
    last_fits c.args.values.now _ c.args.bytes.now 0 _ refl refl c.first_word-word.result (rw take_rest at c.first_word-word.ensures)

pub returns-in_err-append_few-clause-begun : goal.returns-in_err-append_few-clause-begun
returns-in_err-append_few-clause-begun g c = grind (arith, err_from_is_err_and, begins_through)

pub returns-clause-appended : goal.returns-clause-appended
returns-clause-appended g c =
    last_kept c.args.values.now _ c.args.bytes.now 0 _ refl refl c.first_word-word.result (rw take_rest at c.first_word-word.ensures)
    c.args.out.now.items c.loop-block.out.items c.append_few.new.out.items c.loop-block.block (omega arith) c.loop-block.invariant.kept c.in_ok-append_few.ensures.appended
