-- a page of a copy
pub mod Pages
-- the first pair: which blocks are fit, the primary being written, what is found, and from one copy on
pub mod Marks
pub mod Writing
pub mod Seven
pub mod OneCopy
pub mod FirstPair
