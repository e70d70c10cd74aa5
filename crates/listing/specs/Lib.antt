pub mod Texts
pub mod Listing
pub mod Room
pub mod FirstBytes
pub mod Example
pub mod Copies
