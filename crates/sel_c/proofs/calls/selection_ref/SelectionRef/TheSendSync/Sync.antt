-- Several threads may read through one `SelectionRef` at the same time.
use denote.Param.Send.{IsSync}
use Rattle.sel_ffi.proofs.Crossing.{ref_sync}
use Rattle.sel_kernels.proofs.filter.selection.Selection.TheSendSync.{the_sync}
use Rattle.sel_c.specs.contracts.calls.selection_ref.SelectionRef.{the_type, the_row}

pub sync : IsSync the_row
sync = ref_sync the_type (λ r. r.at) (λ r. r.selection) the_sync
