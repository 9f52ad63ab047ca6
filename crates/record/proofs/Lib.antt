pub mod Rises
pub mod Layouts
pub mod OneFault
pub mod Reading
pub mod Placing
