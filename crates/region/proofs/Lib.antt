pub mod Stored
pub mod Asked
pub mod Locating
pub mod Lending
pub mod Bitmaps
pub mod Judged
pub mod Flagging
