pub mod Bools
pub mod Tests
pub mod Slices
pub mod Counting
