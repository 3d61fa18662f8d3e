use Rattle.sel_kernels.proofs.Common.{◌≤ℤ◌, ◌∙◌, pos, ap, sym, subst, arith, ints}
use Rattle.sel_bits.specs.Signs.{magnitude}
use Rattle.sel_kernels.proofs.TakenSpans.{end_shown, span_rises, start_shown}
use Rattle.sel_kernels.proofs.gather.generic_binary.span_if.Goals as goal

pub to_position-requires : goal.to_position-requires
to_position-requires g c =
    let second = end_shown g.O.NativeType.number c.args.offsets.now c.requires.rising c.args.place c.args.valid c.requires.inside c.zero_unless-next.result c.index-offsets-next.result c.zero_unless-next.ensures c.index-offsets-next.is in
    subst (λ z. pos 0 ≤ℤ z) (sym second) (omega (arith, ints))

pub to_position-start-requires : goal.to_position-start-requires
to_position-start-requires g c =
    let first = start_shown g.O.NativeType.number c.args.offsets.now c.requires.rising c.args.place c.args.valid c.requires.inside c.zero_unless-first.result c.index-offsets-first.result c.zero_unless-first.ensures c.index-offsets-first.is in
    subst (λ z. pos 0 ≤ℤ z) (sym first) (omega (arith, ints))

pub overflow_sub-result : goal.overflow_sub-result
overflow_sub-result g c =
    let number = g.O.NativeType.number in
    let second = end_shown number c.args.offsets.now c.requires.rising c.args.place c.args.valid c.requires.inside c.zero_unless-next.result c.index-offsets-next.result c.zero_unless-next.ensures c.index-offsets-next.is in
    let first = start_shown number c.args.offsets.now c.requires.rising c.args.place c.args.valid c.requires.inside c.zero_unless-first.result c.index-offsets-first.result c.zero_unless-first.ensures c.index-offsets-first.is in
    omega (arith, ap magnitude (c.to_position-start.ensures ∙ first), ap magnitude (c.to_position.ensures ∙ second), span_rises number c.args.offsets.now c.requires.rising c.args.place c.args.valid c.requires.inside)

pub returns-clause-start : goal.returns-clause-start
returns-clause-start g c =
    ap magnitude (c.to_position-start.ensures ∙ start_shown g.O.NativeType.number c.args.offsets.now c.requires.rising c.args.place c.args.valid c.requires.inside c.zero_unless-first.result c.index-offsets-first.result c.zero_unless-first.ensures c.index-offsets-first.is)

pub returns-clause-len : goal.returns-clause-len
returns-clause-len g c =
    let number = g.O.NativeType.number in
    let second = end_shown number c.args.offsets.now c.requires.rising c.args.place c.args.valid c.requires.inside c.zero_unless-next.result c.index-offsets-next.result c.zero_unless-next.ensures c.index-offsets-next.is in
    let first = start_shown number c.args.offsets.now c.requires.rising c.args.place c.args.valid c.requires.inside c.zero_unless-first.result c.index-offsets-first.result c.zero_unless-first.ensures c.index-offsets-first.is in
    omega (arith, ap magnitude (c.to_position-start.ensures ∙ first), ap magnitude (c.to_position.ensures ∙ second), span_rises number c.args.offsets.now c.requires.rising c.args.place c.args.valid c.requires.inside)
