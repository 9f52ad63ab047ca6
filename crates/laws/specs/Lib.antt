pub mod Menus
pub mod Laws
pub mod World
pub mod Runs
pub mod Law
