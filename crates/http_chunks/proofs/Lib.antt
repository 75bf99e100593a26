pub mod LineLemmas
pub mod BodyLemmas
pub mod StepLemmas
pub mod TailLemmas
pub mod OneReading
pub mod MoreBytes
pub mod FoundLemmas
