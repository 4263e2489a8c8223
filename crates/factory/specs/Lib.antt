pub mod Marks
pub mod FirstBitmap
