pub mod Stack
pub mod House
