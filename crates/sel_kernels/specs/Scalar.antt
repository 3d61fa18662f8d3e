-- The position at which the next byte of a mask begins.
pub use Rattle.sel_filter.specs.Scalar.{up_to_boundary, rows_to_boundary}
