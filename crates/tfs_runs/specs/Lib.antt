pub mod Place
pub mod Read
pub mod Write
pub mod Blank
pub mod Same
