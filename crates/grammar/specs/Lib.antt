pub mod Tokens
pub mod Grammar
