pub mod Starred
pub mod ThreeHistories
pub mod Premise
