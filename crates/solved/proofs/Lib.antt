pub mod Memberships
pub mod Marked
pub mod Determined
