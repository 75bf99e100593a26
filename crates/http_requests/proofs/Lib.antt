pub mod FirstHeads
pub mod Unique
pub mod Firsts
pub mod FoundHeads
