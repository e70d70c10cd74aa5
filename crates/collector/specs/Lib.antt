pub mod Collector
pub mod Taking
pub mod Giving
pub mod Runs
pub mod Reads
pub mod TakingLaws
pub mod Sound
