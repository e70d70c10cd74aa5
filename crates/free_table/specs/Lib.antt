pub mod Table
pub mod Choosing
pub mod ChosenFacts
pub mod Scanning
pub mod Raising
pub mod ScanLaws
pub mod LentTable
