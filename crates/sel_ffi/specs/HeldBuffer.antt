-- The buffer that a handle owns.
use base.Stored.{Coded}
use Rattle.std.specs.declared.option.Option.{Option}
use Rattle.std.specs.contracts.option.Option as option
use Rattle.sel_ffi.specs.contracts.shared_buffer.SharedBuffer.{the_row}

-- A buffer, or none.
abbrev pub Held : Type 0
Held = Option the_row.Denot

abbrev pub held_coded : Coded Held
held_coded = (option.the_row the_row).coded
