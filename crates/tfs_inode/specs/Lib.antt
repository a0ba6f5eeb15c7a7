pub mod Half
pub mod Wrong
pub mod Claims
pub mod Put
