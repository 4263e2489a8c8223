pub mod Refusals
pub mod Large
pub mod Boot
