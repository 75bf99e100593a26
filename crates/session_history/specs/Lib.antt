pub mod Marks
pub mod Saying
pub mod Phases
pub mod Asking
pub mod Histories
pub mod Requests
