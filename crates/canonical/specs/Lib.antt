pub mod Order
pub mod Same
pub mod Answer
pub mod SortWalk
pub mod Demands
pub mod Tries
pub mod Worthless
