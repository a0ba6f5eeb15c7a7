pub mod Error
pub mod Told
