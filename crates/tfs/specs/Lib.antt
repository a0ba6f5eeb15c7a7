pub mod Told
pub mod Format
pub mod List
