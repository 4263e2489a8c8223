pub mod TablePages
pub mod FirstPair
