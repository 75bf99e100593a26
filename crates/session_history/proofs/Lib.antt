mod Goes
pub mod Same
pub mod Made
pub mod First
pub mod Joined
pub mod On
pub mod Asked
pub mod Unread
