pub mod Events
pub mod Desk
pub mod Story
pub mod Words
