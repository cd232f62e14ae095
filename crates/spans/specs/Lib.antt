-- The definitions that contracts cite, in reading order, and their laws.
pub mod Parts
pub mod Spans
pub mod Narrow
pub mod PartLaws
pub mod SpanLaws
pub mod NarrowLaws
