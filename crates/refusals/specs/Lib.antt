pub mod Refusals
pub mod Numbered
