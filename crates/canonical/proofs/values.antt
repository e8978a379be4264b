pub mod KeyFacts
pub mod Inserts
pub mod Maps
pub mod SameLaws
pub mod Strictly
pub mod Lengths
