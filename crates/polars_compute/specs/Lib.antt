pub mod Laws
pub mod Meaning
