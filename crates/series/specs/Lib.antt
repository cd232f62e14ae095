-- The definitions that contracts cite, in reading order, and their laws.
pub mod Cutting
pub mod Series
pub mod CuttingLaws
pub mod RunLaws
pub mod SeriesLaws
pub mod Outline
pub mod OutlineLaws
pub mod SuffixLaws
pub mod RecordLaws
pub mod CallLaws
