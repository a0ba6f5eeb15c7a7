pub mod Stored
pub mod Create
pub mod Remove
pub mod Write
