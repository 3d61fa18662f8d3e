use Rattle.sel_kernels.proofs.{Common.sym, Selects.picked_kept}
use Rattle.polars_compute.proofs.laws.law_filter_is_take.Goals as goal

pub returns : goal.returns
returns c = λ d xs ms long. sym (picked_kept d xs ms long)
