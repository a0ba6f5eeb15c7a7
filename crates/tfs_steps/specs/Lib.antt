pub mod Format
pub mod Place
pub mod Erase
pub mod Ready
