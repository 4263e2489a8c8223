pub mod Counting
pub mod TwoHalves
pub mod ReadBack
pub mod Places
