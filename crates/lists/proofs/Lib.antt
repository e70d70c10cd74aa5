pub mod Loops
pub mod TestLaws
pub mod CountingLaws
pub mod Iterators
pub mod Found
