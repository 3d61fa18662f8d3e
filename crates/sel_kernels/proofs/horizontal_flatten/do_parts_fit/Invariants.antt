-- Loop invariant: the result depends only on the remaining columns.
use Rattle.sel_kernels.proofs.Common.{◌≡◌, drop, map, rows, parts_fit}
use Rattle.sel_kernels.proofs.horizontal_flatten.do_parts_fit.Given as goal

abbrev pub invariant-loop-s : goal.invariant-loop-s
invariant-loop-s l = parts_fit l.height (drop l.s (map (λ a. rows a.column) l.arrays)) (drop l.s l.widths) ≡ parts_fit l.height (map (λ a. rows a.column) l.arrays) l.widths
