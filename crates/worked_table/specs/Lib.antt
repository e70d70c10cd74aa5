pub mod Asking
pub mod Examples
pub mod More
