pub mod SpotOrder
pub mod Storing
pub mod Histories
pub mod Oldest
pub mod Lawful
pub mod Rising
