use Rattle.sel_ternary.proofs.Common.{◌∙◌, not, map, length, ap, sym, length-map, Bits, hidden}
use Rattle.sel_ternary.proofs.{Chosen.length-spread, WordKernels.null_then, WordKernels.null_otherwise, WordKernels.one_row}
use Rattle.sel_ternary.proofs.if_then_else.by_words.choose_arrays.Goals as goal

pub nulled-requires : goal.nulled-requires
nulled-requires g c =
    let mask = c.args.mask.now.bits in
    ap (λ (b : Bits). length b.bits) c.in_ok-others.ensures.value ∙ length-map mask not
    ∙ sym (ap length c.in_ok-all.ensures.rows ∙ length-spread c.args.false_column mask _ c.requires.false_side)

pub returns-then-is_null_row-clause-rows : goal.returns-then-is_null_row-clause-rows
returns-then-is_null_row-clause-rows g c =
    let mask = c.args.mask.now.bits in
    let row = c.is_null_row.ensures.null c.if-is_null_row.true in
    let null = c.is_null_row.ensures.row c.if-is_null_row.true (one_row c.args.true_column _ _ c.requires.true_side row) in
    c.in_ok-nulled.ensures.rows ∙ ap (λ (b : Bits). hidden b.bits (g.A.Array.rows c.in_ok-all.all)) c.in_ok-others.ensures.value
    ∙ ap (hidden (map not mask)) c.in_ok-all.ensures.rows
    ∙ null_then c.args.true_column c.args.false_column mask _ _ row null c.requires.false_side

pub nulled-requires-then-is_null_row-3 : goal.nulled-requires-then-is_null_row-3
nulled-requires-then-is_null_row-3 g c =
    sym (ap length c.in_ok-all-2.ensures.rows ∙ length-spread c.args.true_column c.args.mask.now.bits _ c.requires.true_side)

pub returns-then-is_null_row-3-clause-rows : goal.returns-then-is_null_row-3-clause-rows
returns-then-is_null_row-3-clause-rows g c =
    let mask = c.args.mask.now.bits in
    let row = c.is_null_row-2.ensures.null c.if-is_null_row-3.true in
    let null = c.is_null_row-2.ensures.row c.if-is_null_row-3.true (one_row c.args.false_column _ _ c.requires.false_side row) in
    c.in_ok-nulled-2.ensures.rows ∙ ap (hidden mask) c.in_ok-all-2.ensures.rows
    ∙ null_otherwise c.args.true_column c.args.false_column mask _ _ row null c.requires.true_side
