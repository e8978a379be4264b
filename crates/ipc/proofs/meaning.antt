pub mod Means
pub mod Messages
pub mod Handshakes
pub mod Inverts
