pub mod Numbers
pub mod NumberLaws
pub mod Flags
pub mod FlagLaws
