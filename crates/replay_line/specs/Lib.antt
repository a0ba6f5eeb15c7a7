pub mod File
pub mod Summary
