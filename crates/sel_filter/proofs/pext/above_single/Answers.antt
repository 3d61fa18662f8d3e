use Rattle.sel_filter.proofs.Common.{◌≡◌, ◌-◌, ◌*◌, ◌%◌, ◌^◌, ◌∙◌, ap, arith, bit_at}
use Rattle.sel_filter.proofs.Single.{above}
use Rattle.sel_filter.proofs.pext.above_single.Goals as goal

pub returns : goal.returns
returns c = λ one p lt.
    let negated : c.wrapping_neg.result ≡ (2 ^ 64 - c.args.x) % 2 ^ 64 = omega (arith, c.wrapping_neg.ensures) in
    ap (λ n. bit_at (n * 2 % 2 ^ 64) p) negated ∙ above c.args.x c.ranges.x.fits one p lt
