pub mod Same
pub mod Copy
pub mod Masks
pub mod Alike
