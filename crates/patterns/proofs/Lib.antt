pub mod Noting
pub mod OneTerm
pub mod Renumbering
pub mod Asking
pub mod Taming
pub mod Turns
pub mod Pairing
pub mod Determined
