pub mod Slots
pub mod Find
pub mod Entry
pub mod Lookup
