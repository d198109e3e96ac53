pub mod Bits
pub mod Halves
pub mod Arithmetic
pub mod Laws
pub mod Narrow
pub mod Wide
