pub mod FrameLengths
pub mod Writes
pub mod PutFrames
pub mod FrameParts
pub mod ListParts
