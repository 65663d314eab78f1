pub mod Decoders
pub mod Encodings
pub mod EncodingsExamples
pub mod Names
pub mod States
