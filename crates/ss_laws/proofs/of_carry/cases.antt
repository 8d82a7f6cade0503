pub mod EachItsOwn
pub mod SettledRows
pub mod SmallNights
pub mod CounterPremises
pub mod SmallAnswers
pub mod CopiedLater
pub mod KeptTexts
