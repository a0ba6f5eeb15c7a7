pub mod Timing
pub mod Histories
pub mod Laws
