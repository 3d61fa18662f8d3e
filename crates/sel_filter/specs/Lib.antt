pub mod Blocks
pub mod Compress
pub mod Runs
pub mod Scalar
pub mod Select
