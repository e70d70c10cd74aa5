pub mod Placing
pub mod Progress
pub mod ShiftLaws
pub mod Found
