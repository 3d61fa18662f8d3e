use Rattle.sel_kernels.proofs.{Common.ap, Common.Bits, Common.leading_zeros, Common.◌≡◌, filter.selection.trimmed.Goals.After-take_trailing_zeros}
use Rattle.sel_kernels.proofs.Selects.{trim, trimmed_kept, trimmed_part, trimmed_within}
use Rattle.sel_kernels.proofs.filter.selection.trimmed.Goals as goal

trimmed : (c : After-take_trailing_zeros) → (c.take_leading_zeros-leading.result ≡ leading_zeros c.args.mask.now.bits) × (c.take_trailing_zeros.new.self.bits ≡ trim c.args.mask.now.bits)
trimmed c =
    let leads = c.take_leading_zeros-leading.ensures.count in
    let first = c.take_leading_zeros-leading.ensures.rest in
    let rest = ap (λ (b : Bits). b.bits) c.take_trailing_zeros.ensures.rest in
    let both = rw (c.take_trailing_zeros.ensures.count, first, leads) at rest in
    (rw (c.in_ok-rest.ensures.value) at leads, rw (c.in_ok-rest.ensures.value) at both)

pub returns-clause-within : goal.returns-clause-within
returns-clause-within c = rw ((trimmed c).0, (trimmed c).1) (trimmed_within c.args.mask.now.bits)

pub returns-clause-part : goal.returns-clause-part
returns-clause-part c = rw ((trimmed c).0, (trimmed c).1) (trimmed_part c.args.mask.now.bits)

pub returns-clause-kept : goal.returns-clause-kept
returns-clause-kept c = rw ((trimmed c).0, (trimmed c).1) (λ xs long. trimmed_kept xs c.args.mask.now.bits long)
