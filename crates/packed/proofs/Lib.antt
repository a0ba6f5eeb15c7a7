pub mod Hashes
pub mod Lacking
