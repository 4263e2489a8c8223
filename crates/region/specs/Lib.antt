pub mod Stored
pub mod Cases
pub mod Parts
pub mod Targets
