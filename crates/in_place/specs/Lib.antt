pub mod Places
pub mod RecordLaws
pub mod SliceLaws
pub mod Joining
pub mod JoiningLaws
pub mod FirstPlaces
