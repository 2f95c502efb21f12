pub mod Settling
pub mod Finished
pub mod Told
pub mod Exhibits
pub mod Anew
pub mod Determined
