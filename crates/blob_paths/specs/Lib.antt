pub mod Hash
pub mod Places
pub mod Ids
pub mod Parts
