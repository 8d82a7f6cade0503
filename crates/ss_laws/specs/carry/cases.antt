pub mod NightRows
pub mod CounterRows
pub mod OwnRows
pub mod NightBefore
pub mod KeptTexts
