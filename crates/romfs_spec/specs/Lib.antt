pub mod Layout
pub mod Check
pub mod Requests
pub mod Accepted
pub mod Statements
