pub mod Unordered
pub mod Alone
pub mod Testing
pub mod Behind
pub mod Firsts
pub mod Replies
pub mod Determined
