pub mod VersionLaws
pub mod HandshakeLaws
pub mod MessageLaws
pub mod ReaderLaws
pub mod NumberLaws
pub mod OnePassLaws
