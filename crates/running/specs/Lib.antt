pub mod Running
pub mod Courses
pub mod Turning
pub mod Leaves
pub mod Calling
