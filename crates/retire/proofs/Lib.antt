pub mod Telling
pub mod Failing
