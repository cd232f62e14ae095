-- The definitions that contracts cite, in reading order, and their laws.
pub mod Depth
pub mod Walk
pub mod Walked
pub mod Need
pub mod SearchLaws
pub mod CeilingLaws
pub mod WalkLaws
pub mod WalkRanges
pub mod DepthLaws
pub mod TurnLaws
pub mod NeedLaws
pub mod WalkedLaws
