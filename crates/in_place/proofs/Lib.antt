pub mod FirstRecord
pub mod FieldsAt
pub mod Joined
pub mod Records
pub mod Targets
