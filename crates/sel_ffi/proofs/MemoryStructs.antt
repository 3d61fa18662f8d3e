-- The structs of lent memory: each has the fields of `Lent`.
use Rattle.std.proofs.Common.{refl}
use denote.{Builtin.i8, Builtin.i16, Builtin.i32, Builtin.i64, Builtin.u8, Builtin.u16, Builtin.u32, Builtin.u64, RattleType.RattleType}
use Rattle.sel_ffi.proofs.MemoryMoves.{LentStruct, lent_struct}
use Rattle.sel_bits.specs.contracts.lent.Lent as lent
use Rattle.sel_arrow.specs.contracts.view.View as view
use Rattle.sel_ffi.specs.contracts.memory.Int8Memory as Int8
use Rattle.sel_ffi.specs.contracts.memory.Int16Memory as Int16
use Rattle.sel_ffi.specs.contracts.memory.Int32Memory as Int32
use Rattle.sel_ffi.specs.contracts.memory.Int64Memory as Int64
use Rattle.sel_ffi.specs.contracts.memory.UInt8Memory as UInt8
use Rattle.sel_ffi.specs.contracts.memory.UInt16Memory as UInt16
use Rattle.sel_ffi.specs.contracts.memory.UInt32Memory as UInt32
use Rattle.sel_ffi.specs.contracts.memory.UInt64Memory as UInt64
use Rattle.sel_ffi.specs.contracts.memory.ViewMemory as View

abbrev pub plain : {R : RattleType} → LentStruct R
plain {R} = lent_struct (lent.the_row R) (λ l. l) (λ l. l) (λ l. refl) (λ d vs. refl) (λ d. tt) (λ d f. refl)

abbrev pub int8 : LentStruct i8
int8 = lent_struct Int8.the_row
    (λ m. record { at = m.at; len = m.len; room = m.room; items = m.items; counted = m.counted; small = m.small })
    (λ l. record { at = l.at; len = l.len; room = l.room; items = l.items; counted = l.counted; small = l.small })
    (λ l. refl) (λ d vs. refl) (λ d. tt) (λ d f. refl)

abbrev pub int16 : LentStruct i16
int16 = lent_struct Int16.the_row
    (λ m. record { at = m.at; len = m.len; room = m.room; items = m.items; counted = m.counted; small = m.small })
    (λ l. record { at = l.at; len = l.len; room = l.room; items = l.items; counted = l.counted; small = l.small })
    (λ l. refl) (λ d vs. refl) (λ d. tt) (λ d f. refl)

abbrev pub int32 : LentStruct i32
int32 = lent_struct Int32.the_row
    (λ m. record { at = m.at; len = m.len; room = m.room; items = m.items; counted = m.counted; small = m.small })
    (λ l. record { at = l.at; len = l.len; room = l.room; items = l.items; counted = l.counted; small = l.small })
    (λ l. refl) (λ d vs. refl) (λ d. tt) (λ d f. refl)

abbrev pub int64 : LentStruct i64
int64 = lent_struct Int64.the_row
    (λ m. record { at = m.at; len = m.len; room = m.room; items = m.items; counted = m.counted; small = m.small })
    (λ l. record { at = l.at; len = l.len; room = l.room; items = l.items; counted = l.counted; small = l.small })
    (λ l. refl) (λ d vs. refl) (λ d. tt) (λ d f. refl)

abbrev pub uint8 : LentStruct u8
uint8 = lent_struct UInt8.the_row
    (λ m. record { at = m.at; len = m.len; room = m.room; items = m.items; counted = m.counted; small = m.small })
    (λ l. record { at = l.at; len = l.len; room = l.room; items = l.items; counted = l.counted; small = l.small })
    (λ l. refl) (λ d vs. refl) (λ d. tt) (λ d f. refl)

abbrev pub uint16 : LentStruct u16
uint16 = lent_struct UInt16.the_row
    (λ m. record { at = m.at; len = m.len; room = m.room; items = m.items; counted = m.counted; small = m.small })
    (λ l. record { at = l.at; len = l.len; room = l.room; items = l.items; counted = l.counted; small = l.small })
    (λ l. refl) (λ d vs. refl) (λ d. tt) (λ d f. refl)

abbrev pub uint32 : LentStruct u32
uint32 = lent_struct UInt32.the_row
    (λ m. record { at = m.at; len = m.len; room = m.room; items = m.items; counted = m.counted; small = m.small })
    (λ l. record { at = l.at; len = l.len; room = l.room; items = l.items; counted = l.counted; small = l.small })
    (λ l. refl) (λ d vs. refl) (λ d. tt) (λ d f. refl)

abbrev pub uint64 : LentStruct u64
uint64 = lent_struct UInt64.the_row
    (λ m. record { at = m.at; len = m.len; room = m.room; items = m.items; counted = m.counted; small = m.small })
    (λ l. record { at = l.at; len = l.len; room = l.room; items = l.items; counted = l.counted; small = l.small })
    (λ l. refl) (λ d vs. refl) (λ d. tt) (λ d f. refl)

abbrev pub views : LentStruct view.the_row
views = lent_struct View.the_row
    (λ m. record { at = m.at; len = m.len; room = m.room; items = m.items; counted = m.counted; small = m.small })
    (λ l. record { at = l.at; len = l.len; room = l.room; items = l.items; counted = l.counted; small = l.small })
    (λ l. refl) (λ d vs. refl) (λ d. tt) (λ d f. refl)
