pub mod Order
pub mod OrderLaws
pub mod Codes
pub mod Behind
pub mod Ties
