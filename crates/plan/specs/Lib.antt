pub mod Calls
pub mod Works
pub mod Answers
pub mod PageImages
pub mod Bridge
pub mod Dependence
