pub mod Kind48
pub mod Same48
