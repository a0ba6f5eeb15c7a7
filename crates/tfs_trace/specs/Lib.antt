pub mod Told
pub mod Kind
