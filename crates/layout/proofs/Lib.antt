pub mod Signed
pub mod Unread
pub mod FirstTarget
pub mod Ends
pub mod Scanned
pub mod Objects
