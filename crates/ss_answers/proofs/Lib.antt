mod AnswerLaws
mod AnswerLines
pub mod Base64Text
mod CounterLaws
mod CounterParts
pub mod CounterWords
mod CutLaws
pub mod Cuts
mod Decoded
mod EndedLines
mod FirstOctets
mod KeptLines
mod LineLaws
mod OrderedLines
mod PartLaws
mod PartLines
mod PlaceLaws
mod PlaceLines
mod ReadLines
mod ReadParts
pub mod Starts
mod TrustedPayloads
