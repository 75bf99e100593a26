pub mod Heads
pub mod Bodies
pub mod Requests
pub mod Found
