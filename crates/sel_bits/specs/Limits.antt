-- The sizes that a column cannot exceed (Arrow columnar format: views have offsets of 32 bits).
use Rattle.std.specs.Prelude.{ℕ}

-- The greatest number of rows of a column, and the greatest size of its fixed-size lists.
abbrev pub max_rows : ℕ
max_rows = 4294967295

-- The greatest number of data buffers of a view column.
abbrev pub max_buffers : ℕ
max_buffers = 4294967295

-- The greatest number of bytes of a data buffer that views refer to.
abbrev pub max_buffer_bytes : ℕ
max_buffer_bytes = 4294967295
