use Rattle.sel_filter.proofs.Common.{◌∷◌, [], ◌==◌, ◌++◌, ◌∙◌, refl, sym, ap, arith, div-one, take_all, bit_and, bits, select}
use Rattle.sel_filter.proofs.Dense.{dense_begin, dense_next}
use Rattle.sel_filter.proofs.block.push_four.Goals as goal

pub returns-clause-appended : goal.returns-clause-appended
returns-clause-appended g c =
    let xs = c.args.four.now in
    let w = c.args.word in
    let old = c.args.out.now.items in
    let first = ap (λ v. old ++ select (c.index-four-0.result ∷ []) ((bit_and v 1 == 1) ∷ [])) (sym (div-one w)) in
    let one = dense_next xs w old _ _ 0 1 _ (omega (arith, c.requires.four)) c.index-four-0.is refl (c.push_if.ensures.appended ∙ first) (dense_begin xs w old) in
    let two = dense_next xs w old _ _ 1 2 _ (omega (arith, c.requires.four)) c.index-four-1.is refl c.push_if-2.ensures.appended one in
    let three = dense_next xs w old _ _ 2 3 _ (omega (arith, c.requires.four)) c.index-four-2.is refl c.push_if-3.ensures.appended two in
    dense_next xs w old _ _ 3 4 _ (omega (arith, c.requires.four)) c.index-four-3.is refl c.push_if-4.ensures.appended three
    ∙ ap (λ l. old ++ select l (bits 4 w)) (take_all 4 xs (omega (arith, c.requires.four)))
