pub mod BufferLaws
pub mod Bytes
pub mod CompareLaws
