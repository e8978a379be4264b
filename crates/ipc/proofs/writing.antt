pub mod LengthLaws
pub mod WriterLaws
pub mod HandshakeWriterLaws
