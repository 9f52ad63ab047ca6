pub mod Words
pub mod Rows
pub mod Kept
pub mod Contents
pub mod Calls
pub mod View
pub mod Holds
pub mod Saved
