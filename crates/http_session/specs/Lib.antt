pub mod Views
pub mod Bodies
pub mod Taken
pub mod Steps
pub mod Fills
