pub mod Clause
pub mod Rows
pub mod Computed
pub mod Words
pub mod Told
pub mod Entailing
pub mod Deciding
pub mod Gathering
