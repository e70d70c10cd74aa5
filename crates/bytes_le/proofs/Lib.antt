pub mod Masks
pub mod Bytes
