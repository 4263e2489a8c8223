pub mod Half
pub mod Sums
pub mod Verdicts
pub mod Flips
pub mod Claims
pub mod Places
