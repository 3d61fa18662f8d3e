use Rattle.sel_gather.proofs.Common.{◌∙◌, ◌∷◌, ◌++◌, [], All, ap, sym, subst, map, arith, option_copied, on_ok_weaker, HasBit, bits_found}
use Rattle.sel_gather.proofs.{Walks.one_told, Walks.told_fits, Walks.told_picked, Walks.two_told}
use Rattle.sel_gather.proofs.validity.append_validity.Goals as goal

pub returns-in-len1-clause-bits : goal.returns-in-len1-clause-bits
returns-in-len1-clause-bits g c =
    let cs = c.args.sources.now in
    let v = option_copied c.validity.result in
    let told = one_told cs c.only-item.result v (omega (arith, c.in-len1.len_at_least)) (omega (arith, c.in-len1.len_below)) c.only-item.is c.validity.ensures in
    on_ok_weaker c.append_bits.result (λ is. is ∙ ap (λ l. g.S.BitSink.so_far c.args.sink.now ++ l) (told_picked (v ∷ []) cs (g.P.Plan.picks c.args.plan.now) told c.requires.known c.requires.fits)) c.append_bits.ensures.bits

pub append_bits-requires-in-len2 : goal.append_bits-requires-in-len2
append_bits-requires-in-len2 g c =
    let cs = c.args.sources.now in
    let v = option_copied c.validity-in-len2.result in
    let w = option_copied c.validity-in-len2-2.result in
    let told = two_told cs c.one-item.result c.other-item.result v w (omega (arith, c.in-len2.len_at_least)) (omega (arith, c.in-len2.len_below)) c.one-item.is c.other-item.is c.validity-in-len2.ensures c.validity-in-len2-2.ensures in
    told_fits (v ∷ w ∷ []) cs (g.P.Plan.picks c.args.plan.now) told c.requires.known c.requires.fits

pub returns-in-len2-clause-bits : goal.returns-in-len2-clause-bits
returns-in-len2-clause-bits g c =
    let cs = c.args.sources.now in
    let v = option_copied c.validity-in-len2.result in
    let w = option_copied c.validity-in-len2-2.result in
    let told = two_told cs c.one-item.result c.other-item.result v w (omega (arith, c.in-len2.len_at_least)) (omega (arith, c.in-len2.len_below)) c.one-item.is c.other-item.is c.validity-in-len2.ensures c.validity-in-len2-2.ensures in
    on_ok_weaker c.append_bits-in-len2.result (λ is. is ∙ ap (λ l. g.S.BitSink.so_far c.args.sink.now ++ l) (told_picked (v ∷ w ∷ []) cs (g.P.Plan.picks c.args.plan.now) told c.requires.known c.requires.fits)) c.append_bits-in-len2.ensures.bits

pub append_bits-requires-2 : goal.append_bits-requires-2
append_bits-requires-2 g c =
    let ps = g.P.Plan.picks c.args.plan.now in
    let maps = ap (map option_copied) c.deref.ensures.value in
    subst (λ vs. All (HasBit vs) ps) (sym maps) (told_fits (map option_copied c.in_ok-maps.maps.items) c.args.sources.now ps c.in_ok-maps.ensures.told c.requires.known c.requires.fits)

pub returns-clause-bits : goal.returns-clause-bits
returns-clause-bits g c =
    let ps = g.P.Plan.picks c.args.plan.now in
    let told = told_picked (map option_copied c.in_ok-maps.maps.items) c.args.sources.now ps c.in_ok-maps.ensures.told c.requires.known c.requires.fits in
    on_ok_weaker c.append_bits-2.result (λ is. is ∙ ap (λ l. g.S.BitSink.so_far c.args.sink.now ++ l) (ap (λ l. bits_found (map option_copied l) ps) c.deref.ensures.value ∙ told)) c.append_bits-2.ensures.bits
