pub mod Encodings
pub mod ScalarReads
pub mod Sound
pub mod Complete
pub mod FirstBytes
