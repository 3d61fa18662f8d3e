-- What handles and read access to them own names no thread, so both can be sent to another thread.
--     shared_send, shared_sync    a column can
--     handle_send, handle_sync    a handle can, if its value can
--     ref_send, ref_sync          read access can, if several threads may read the value
use mathlib.Core.List.{[], ◌∷◌}
use mir.Raw.{raw}
use base.Shift.{Keyless}
use denote.{RawPtr.Ptr, Memory.lone, Builtin.RawPtr, RattleType.RattleType, Struct.Struct.exits_of, Struct.Owning.Owning, Struct.Owning.row}
use denote.Struct.Owning.{shape, fields, to}
use denote.Param.Send.{IsSend, IsSync, AllSend, owning_send, struct_send, part_keyless, sendable}
use Rattle.std.specs.declared.alloc.Global.{Global}
use Rattle.sel_ffi.proofs.{Common.Option, Common.None, Common.Some, Common.held_owns, Common.ref_owns, HandleSteps.Owner, HandleSteps.Row, HandleSteps.form}
use Rattle.sel_ffi.{proofs.RefSteps.ref_struct, specs.contracts.shared_column.SharedColumn.the_row}
use Rattle.std_alloc.proofs.SendSync.{quiet, lies, seen}
use Rattle.sel_arrow.proofs.Crossing.{array_send, array_sync}
use Rattle.std.proofs.Crossing as heap
use Rattle.std.proofs.alloc.Global.TheSendSync as allocator

pub shared_send : IsSend the_row
shared_send = search (sendable, heap.Arc-send, array_send, array_sync) depth 20

pub shared_sync : IsSync the_row
shared_sync = search (sendable, heap.Arc-sync, array_send, array_sync) depth 20

pointer : IsSend RawPtr
pointer = search sendable

module _ {R : RattleType} where
  held_keyless : IsSend R → (a : Global) (p : Ptr) (held : Option R.Denot) → Keyless (held_owns R a p held)
  held_keyless sends a p None = tt
  held_keyless sends a p (Some x) = (lies R sends p x, heap.frees.frees a (raw (lone R.mir)) p)

  module _ (O : Owner R) (sends : IsSend R) where
    pub handle_send : IsSend (Row O)
    handle_send =
        let T = form O in
        let all : AllSend (fields T) = (pointer, (allocator.the_field_send, tt)) in
        owning_send T all (λ d. let x = O.parts d in held_keyless sends x.1.0 x.0 x.1.1) (λ k. quiet (to T) (exits_of k (fields T)) ((struct_send (shape T) all).leaving k))

    pub handle_sync : IsSync (Row O)
    handle_sync = record { shared = λ d b o κ q. part_keyless (Row O) handle_send q d b o }

  ref_keyless : IsSync R → (p : Ptr) (held : Option R.Denot) → Keyless (ref_owns R p held)
  ref_keyless syncs p None = tt
  ref_keyless syncs p (Some x) = ((λ may. tt), (λ a. ((λ share. tt), seen R syncs p x (a ∷ []))))

  module _ (S : Owning) (at : S.D → Ptr) (held : S.D → Option R.Denot) (syncs : IsSync R) where
    abbrev T : Owning
    T = ref_struct R S at held

    pub ref_send : IsSend (row T)
    ref_send = owning_send T (pointer, tt) (λ d. ref_keyless syncs (at d) (held d)) (λ k. quiet (to T) (exits_of k (fields T)) ((struct_send (shape T) (pointer, tt)).leaving k))

    pub ref_sync : IsSync (row T)
    ref_sync = record { shared = λ d b o κ q. part_keyless (row T) ref_send q d b o }
