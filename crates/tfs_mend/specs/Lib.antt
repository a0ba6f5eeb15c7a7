pub mod Search
pub mod Missing
pub mod Extra
pub mod Mended
