pub mod Refusals
pub mod Others
