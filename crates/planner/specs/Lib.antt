pub mod Tries
pub mod Complete
pub mod View
