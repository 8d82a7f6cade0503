pub mod Parts
pub mod PartLaws
pub mod PartCounters
pub mod WholeParts
pub mod PinnedParts
pub mod cases
