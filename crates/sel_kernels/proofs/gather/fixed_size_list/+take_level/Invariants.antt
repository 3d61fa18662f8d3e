-- Termination: each recursive call is on a column of a smaller type.
use Rattle.sel_kernels.proofs.Common.{type_of, size_of}
use Rattle.sel_kernels.proofs.gather.fixed_size_list.+take_level.Given as goal

abbrev pub decreases-take_level : goal.decreases-take_level
decreases-take_level l = size_of (type_of l.column.now)
