pub mod Ascii
pub mod Bytes
pub mod Numerals
pub mod Put
