mod WordLemmas
mod Files
mod SomeMade
mod Answered
mod Causes
mod Held
mod Unfailed
mod Exactly
pub mod OneFile
