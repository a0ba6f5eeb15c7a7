pub mod Known
pub mod Window
pub mod Tour
pub mod Facts
