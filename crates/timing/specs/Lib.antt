pub mod Told
pub mod Bytes
pub mod Rooms
pub mod Looks
pub mod Answers
