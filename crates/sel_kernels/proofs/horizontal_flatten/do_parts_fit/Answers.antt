use Rattle.sel_kernels.proofs.Common.{◌∙◌, ◌+◌, ◌&&◌, ap, sym, map, drop, length-map, rows, ArrayRef, parts_fit}
use Rattle.sel_kernels.proofs.Flattening.{unpaired, one_fits}
use Rattle.sel_kernels.proofs.horizontal_flatten.do_parts_fit.Goals as goal

pub returns-then-arrays-widths : goal.returns-then-arrays-widths
returns-then-arrays-widths c =
    unpaired c.args.height (map (λ (a : ArrayRef). rows a.column) c.args.arrays.now) c.args.widths.now
    (λ same. c.if-arrays-widths.true (sym (length-map c.args.arrays.now (λ (a : ArrayRef). rows a.column)) ∙ same))

pub returns-then-not-does_part_fit : goal.returns-then-not-does_part_fit
returns-then-not-does_part_fit c =
    let step = one_fits c.args.height c.args.arrays.now c.args.widths.now c.loop-s.s c.index-arrays-s.result c.len.result (c.if-arrays-widths.false) c.loop-s-test.true c.index-arrays-s.is c.len.ensures.len in
    let off = sym c.does_part_fit.ensures ∙ c.if-not-does_part_fit.true in
    sym (ap (λ b. b && parts_fit c.args.height (drop (c.loop-s.s + 1) (map (λ (a : ArrayRef). rows a.column) c.args.arrays.now)) (drop (c.loop-s.s + 1) c.args.widths.now)) off) ∙ sym step ∙ c.loop-s.invariant

pub loop-s-preserved : goal.loop-s-preserved
loop-s-preserved c =
    let step = one_fits c.args.height c.args.arrays.now c.args.widths.now c.loop-s.s c.index-arrays-s.result c.len.result (c.if-arrays-widths.false) c.loop-s-test.true c.index-arrays-s.is c.len.ensures.len in
    let on = sym c.does_part_fit.ensures ∙ c.if-not-does_part_fit.false in
    sym (ap (λ b. b && parts_fit c.args.height (drop (c.loop-s.s + 1) (map (λ (a : ArrayRef). rows a.column) c.args.arrays.now)) (drop (c.loop-s.s + 1) c.args.widths.now)) on) ∙ sym step ∙ c.loop-s.invariant
