pub mod Whole
pub mod FileType
pub mod Known
