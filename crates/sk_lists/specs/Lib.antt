pub mod Lists
pub mod Forms
pub mod Seeks
pub mod Cursor
