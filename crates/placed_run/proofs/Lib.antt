pub mod Taking
pub mod PlacingLaws
pub mod TurnLaws
pub mod NextLaws
pub mod FoundLaws
pub mod EndLaws
