pub mod PartRows
pub mod CounterRows
pub mod MissingRows
pub mod TextsInParts
