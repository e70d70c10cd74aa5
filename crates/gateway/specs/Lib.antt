pub mod Host
pub mod LentAnswers
pub mod HostGrowth
pub mod LentWords
pub mod WordLaws
pub mod PageRunLaws
