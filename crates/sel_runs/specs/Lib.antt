pub mod Picks
pub mod Plans
pub mod Runs
