pub mod BeginsLaws
pub mod Equality
pub mod Order
