-- `Handle` as a struct that owns a box or nothing.
use Rattle.std.proofs.Common.{refl}
use Rattle.sel_ffi.specs.contracts.shared_column.SharedColumn as shared_column
use Rattle.sel_ffi.specs.contracts.handle.Handle as handle
use Rattle.sel_ffi.proofs.HandleSteps.{Owner, owner}

abbrev pub columns : Owner shared_column.the_row
columns = owner handle.the_type (λ h. (h.at, (h.alloc, h.tree))) (λ x. record { at = x.0; alloc = x.1.0; tree = x.1.1 }) (λ x. refl)
