pub mod Create
pub mod Remove
