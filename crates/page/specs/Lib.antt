pub mod Pages
pub mod Claims
pub mod Places
