pub mod Numbers
pub mod RefusalNumbers
pub mod Calls
pub mod LookupLaws
pub mod GrowthLaws
pub mod OutstandingLaws
pub mod HostCallLaws
