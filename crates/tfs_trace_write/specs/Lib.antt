pub mod Drafts
pub mod Puts
pub mod Halves
pub mod Records
pub mod DraftLaws
