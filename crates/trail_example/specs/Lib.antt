pub mod Exhibits
