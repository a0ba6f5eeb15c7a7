pub mod Files
pub mod Doubled
pub mod Taken
pub mod Row
pub mod Claimed
pub mod Found
pub mod Owned
pub mod Order
