pub mod Answering
pub mod Calls
pub mod Lines
pub mod Menus
pub mod Reading
pub mod Texts
pub mod Writing
