pub mod Hash
pub mod Input
pub mod Cases
pub mod Runs
