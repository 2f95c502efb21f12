pub mod Literals
pub mod Conjunctions
pub mod Bodies
