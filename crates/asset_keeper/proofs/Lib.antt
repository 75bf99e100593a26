pub mod Paging
pub mod Reading
pub mod Copying
pub mod InRange
pub mod Pages
