pub mod Boundary
pub mod LargeBoundary
