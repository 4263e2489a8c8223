pub mod Copying
pub mod Bridge
pub mod Reading
