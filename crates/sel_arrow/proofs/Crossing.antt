-- A column may go to another thread, and several threads may read it.
use denote.Param.Send.{IsSend, IsSync, sendable, struct_send, struct_sync, recorded_send, recorded_sync}
use denote.Struct.Declared.{shape}
use Rattle.std.proofs.Crossing as std
use Rattle.sel_bits.proofs.bitmap.Bitmap.TheSendSync as bitmap
use Rattle.sel_bits.proofs.buffer.Buffer.TheSendSync as buffer
use Rattle.sel_bits.proofs.offsets.OffsetsBuffer.TheSendSync as offsets
use Rattle.sel_arrow.proofs.column.Column.TheLaws.TheKnot.{send-Column, sync-Column}
use Rattle.sel_arrow.proofs.binview.BinaryViewArray.TheSendSync as binview
use Rattle.sel_arrow.proofs.utf8view.Utf8ViewArray.TheSendSync as utf8view
use Rattle.sel_arrow.specs.contracts.column.Column as Column
use Rattle.sel_arrow.specs.contracts.array_ref.ArrayRef as ArrayRef
use Rattle.sel_arrow.specs.contracts.array_ref.ArrayRef.{the_row, the_type}

pub column_send : IsSend Column.the_field.row
column_send = send-Column (search sendable) (search (sendable, bitmap.the_send) depth 10) (search (sendable, buffer.the_send, bitmap.the_send) depth 20) (search (sendable, buffer.the_send, bitmap.the_send) depth 20) (search (sendable, buffer.the_send, bitmap.the_send) depth 20) (search (sendable, buffer.the_send, bitmap.the_send) depth 20) (search (sendable, buffer.the_send, bitmap.the_send) depth 20) (search (sendable, buffer.the_send, bitmap.the_send) depth 20) (search (sendable, buffer.the_send, bitmap.the_send) depth 20) (search (sendable, buffer.the_send, bitmap.the_send) depth 20) (search (sendable, buffer.the_send, bitmap.the_send) depth 20) (search (sendable, buffer.the_send, bitmap.the_send) depth 20) (search (sendable, offsets.the_send, buffer.the_send, bitmap.the_send) depth 20) binview.the_field_send utf8view.the_field_send (search (sendable, offsets.the_send) depth 20) std.Box-send (search (sendable, bitmap.the_send) depth 10) (search sendable) std.Vec-send

pub column_sync : IsSync Column.the_field.row
column_sync = sync-Column (search sendable) (search (sendable, bitmap.the_sync) depth 10) (search (sendable, buffer.the_sync, bitmap.the_sync) depth 20) (search (sendable, buffer.the_sync, bitmap.the_sync) depth 20) (search (sendable, buffer.the_sync, bitmap.the_sync) depth 20) (search (sendable, buffer.the_sync, bitmap.the_sync) depth 20) (search (sendable, buffer.the_sync, bitmap.the_sync) depth 20) (search (sendable, buffer.the_sync, bitmap.the_sync) depth 20) (search (sendable, buffer.the_sync, bitmap.the_sync) depth 20) (search (sendable, buffer.the_sync, bitmap.the_sync) depth 20) (search (sendable, buffer.the_sync, bitmap.the_sync) depth 20) (search (sendable, buffer.the_sync, bitmap.the_sync) depth 20) (search (sendable, offsets.the_sync, buffer.the_sync, bitmap.the_sync) depth 20) binview.the_field_sync utf8view.the_field_sync (search (sendable, offsets.the_sync) depth 20) std.Box-sync (search (sendable, bitmap.the_sync) depth 10) (search sendable) std.Vec-sync

pub array_send : IsSend the_row
array_send = recorded_send ArrayRef.the_field.row _ _ the_type.to_one (struct_send (shape the_type) (column_send, tt))

pub array_sync : IsSync the_row
array_sync = recorded_sync ArrayRef.the_field.row _ _ the_type.to_one (struct_sync (shape the_type) (column_sync, tt))

pub ruleset columns_cross = (column_send, column_sync)
