pub mod Counting
pub mod Mapping
pub mod Slots
pub mod Answers
pub mod Loader
