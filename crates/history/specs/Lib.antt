pub mod Events
pub mod Settings
pub mod Lines
pub mod Law
pub mod Answering
