use Rattle.sel_gather.proofs.{Common.◌∙◌, Common.sym, KeptBlocks.nulls_first, KeptBlocks.rows_first, KeptBlocks.run_split}
use Rattle.sel_gather.proofs.live_runs.split_kept.Goals as goal

pub returns-then-get_bit-clause-picks : goal.returns-then-get_bit-clause-picks
returns-then-get_bit-clause-picks c =
    let r = c.args.run in
    rows_first c.args.bits.now.bits r.source r.start c.equal_bits-len.result r.len c.equal_bits-len.ensures.within c.equal_bits-len.ensures.equal (sym c.get_bit.ensures ∙ c.if-get_bit.true)

pub returns-then-get_bit-clause-rest : goal.returns-then-get_bit-clause-rest
returns-then-get_bit-clause-rest c = let r = c.args.run in run_split r.source r.start c.equal_bits-len.result r.len c.equal_bits-len.ensures.within

pub returns-else-get_bit-clause-picks : goal.returns-else-get_bit-clause-picks
returns-else-get_bit-clause-picks c =
    let r = c.args.run in
    rw c.nulls_of.ensures (nulls_first c.args.bits.now.bits r.source r.start c.equal_bits-len.result r.len c.equal_bits-len.ensures.within c.equal_bits-len.ensures.equal (sym c.get_bit.ensures ∙ c.if-get_bit.false))

pub returns-else-get_bit-clause-rest : goal.returns-else-get_bit-clause-rest
returns-else-get_bit-clause-rest c = let r = c.args.run in rw c.nulls_of.ensures (run_split r.source r.start c.equal_bits-len.result r.len c.equal_bits-len.ensures.within)
