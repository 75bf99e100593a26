pub mod Taken
pub mod Uploads
pub mod Downloads
