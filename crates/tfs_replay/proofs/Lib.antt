pub mod Runs
pub mod Records
