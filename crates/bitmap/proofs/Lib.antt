pub mod Rule
pub mod Parts
pub mod Into
