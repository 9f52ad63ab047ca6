pub mod Record
pub mod Faults
pub mod Writing
