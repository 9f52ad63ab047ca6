pub mod Gathering
pub mod Lines
pub mod Picking
pub mod Rows
pub mod Walking
