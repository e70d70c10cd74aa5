pub mod DecimalValue
pub mod Digits
pub mod DecimalLaws
