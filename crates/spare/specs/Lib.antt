pub mod Status
pub mod Tags
pub mod Reading
pub mod Writing
pub mod Claims
pub mod WhyNotOurs
