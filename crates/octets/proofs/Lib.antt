pub mod general
pub mod sequences
pub mod digits
pub mod writing
