pub mod Reading
pub mod Rewritten
