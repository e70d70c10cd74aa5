pub mod PlacedLaws
pub mod FieldLaws
pub mod FirstPlaces
pub mod Spans
pub mod ValidLaws
pub mod SpanLaws
