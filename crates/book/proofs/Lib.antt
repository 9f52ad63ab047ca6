pub mod Tables
pub mod Keeping
pub mod Words
mod Holding
pub mod Saving
