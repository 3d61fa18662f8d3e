-- Concatenated rows of bytes.
pub use Rattle.sel_gather.specs.JoinedBytes.{ends_from}
pub use Rattle.sel_gather.specs.GrownBytes.{bytes_of, joined_bytes}
