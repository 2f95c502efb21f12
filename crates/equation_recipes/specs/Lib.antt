pub mod Recipes
pub mod Planned
