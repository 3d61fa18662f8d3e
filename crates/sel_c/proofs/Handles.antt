-- `SelectionHandle` as a struct that owns a box or nothing.
use Rattle.std.proofs.Common.{refl}
use Rattle.sel_ffi.proofs.HandleSteps.{Owner, owner}
use Rattle.sel_kernels.specs.contracts.filter.selection.Selection as owned
use Rattle.sel_c.specs.contracts.calls.selection_handle.SelectionHandle as handle

abbrev pub selections : Owner owned.the_row
selections = owner handle.the_type (λ h. (h.at, (h.alloc, h.selection))) (λ x. record { at = x.0; alloc = x.1.0; selection = x.1.1 }) (λ x. refl)
