pub mod CutRows
pub mod CounterRows
pub mod MissingRows
pub mod TextsInParts
