-- The bits of a word under a mask word.
pub use Rattle.sel_filter.specs.Compress.{compress}
