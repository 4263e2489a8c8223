pub mod Tables
pub mod Bridge
