pub mod Shown
pub mod Walks
pub mod Tells
pub mod Pages
pub mod Needs
pub mod Calm
pub mod Hits
pub mod Views
