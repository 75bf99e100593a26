pub mod Exact
pub mod Lookups
pub mod Moves
pub mod Firsts
