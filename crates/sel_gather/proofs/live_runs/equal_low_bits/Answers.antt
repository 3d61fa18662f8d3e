use Rattle.sel_gather.proofs.{Common.◌==◌, Common.◌∙◌, Common.ap, Common.sym, Common.arith, LiveBits.low_ones, LiveBits.low_zeros}
use Rattle.sel_gather.proofs.live_runs.equal_low_bits.Goals.{then-bit, else-bit}
use Rattle.sel_gather.proofs.live_runs.equal_low_bits.Goals as goal

pub returns-clause-equal : goal.returns-clause-equal
returns-clause-equal c i h =
    elim c.if-bit.branch [
      | then-bit w ↦ ap (λ d. d == 1) (low_ones c.args.word i c.ranges.word.fits (omega (arith, h, c.requires)) (omega (arith, h, w.count-is))) ∙ sym w.if-bit.true
      | else-bit w ↦ ap (λ d. d == 1) (low_zeros c.args.word i c.ranges.word.fits (omega (arith, h, w.count-is))) ∙ sym w.if-bit.false
    ]
