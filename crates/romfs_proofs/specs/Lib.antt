pub mod Plain
pub mod Checked
pub mod Answered
pub mod Past
pub mod Proved
