use Rattle.sel_kernels.proofs.Dictionaries.{propagation_decodes}
use Rattle.polars_compute.proofs.laws.law_propagate.Goals as goal

pub returns-clause-decodes : goal.returns-clause-decodes
returns-clause-decodes c = propagation_decodes
