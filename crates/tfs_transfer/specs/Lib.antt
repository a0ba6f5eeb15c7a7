pub mod Told
pub mod Transfer
pub mod Compare
