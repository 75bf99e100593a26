pub mod Segments
pub mod Named
pub mod Parts
pub mod Apart
