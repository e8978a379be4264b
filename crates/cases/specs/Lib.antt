pub mod Fields
pub mod Hex
