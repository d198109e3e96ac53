pub mod Orderly
pub mod Seeking
pub mod Reaching
pub mod Entries
pub mod Planes
pub mod Calls
pub mod Nth
pub mod Editing
