pub mod Under
pub mod Bits
pub mod Free
pub mod Compare
pub mod Words
