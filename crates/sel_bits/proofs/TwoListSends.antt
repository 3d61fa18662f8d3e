-- What the owner of lent memory has names no thread, if the values name none. Assumes nothing.
--     lodged_keyless    the memory of a list
--     marked_send       a field that only names a type
use mathlib.Core.Bool.{Bool, true, false}
use mathlib.Core.List.{List}
use Prim.Native.Nat.{ℕ, ◌-◌, ◌*◌}
use mir.Syntax.{Ty, ty_array}
use mir.Raw.{raw}
use base.Fml.{Fml}
use base.Shift.{Keyless}
use denote.Array.{Array}
use denote.Memory.{lone}
use denote.Param.Send.{IsSend, array_send, struct_send}
use denote.RattleType.{RattleType}
use denote.RawPtr.{Ptr, block_ptr, null_ptr, room_for, in_block, ◌+ₚ◌}
use denote.Struct.Declared.{shape}
use Rattle.core.specs.contracts.marker.PhantomData as marker
use Rattle.std_alloc.proofs.SendSync.{lies}
use Rattle.std_alloc.specs.Vec.Ownership.{owns_if, has_block, lodged}
use Rattle.core.specs.Mem.{type_size}

room_keyless : (τ : Ty) (p : Ptr) → Keyless (room_for τ p)
room_keyless τ (block_ptr b o) = tt
room_keyless τ null_ptr = tt

in_block_keyless : (p : Ptr) (P : Fml) → Keyless P → Keyless (in_block p P)
in_block_keyless (block_ptr b o) P k = k
in_block_keyless null_ptr P k = tt

owns_if_keyless : (y : Bool) (P : Fml) → Keyless P → Keyless (owns_if y P)
owns_if_keyless true P k = k
owns_if_keyless false P k = tt

pub lodged_keyless : (R : RattleType) → IsSend R → (p : Ptr) (n c : ℕ) (xs : List R.Denot) → Keyless (lodged R p n c xs)
lodged_keyless R s p n c xs = (
  tt,
  in_block_keyless p _ (owns_if_keyless (has_block c) _ (
    lies (Array R n) (array_send R n s) p xs,
    (room_keyless (raw (ty_array (lone R.mir) (c - n))) (p +ₚ n * type_size R), tt),
  )),
)

-- a mark has no fields
pub marked_send : (R : RattleType) → IsSend (marker.the_field R).row
marked_send R = struct_send (shape (marker.the_type R)) tt
