pub mod HostLaws
pub mod FoundLaws
pub mod HostGrowthLaws
pub mod HostGrowthNumbers
pub mod LentStores
pub mod PageTurns
pub mod LoadedWords
pub mod FoundPlaces
