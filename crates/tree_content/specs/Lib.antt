pub mod Blobs
pub mod Contents
pub mod Files
pub mod Verdicts
