pub mod Nodes
pub mod Trie
pub mod Search
pub mod Changes
pub mod Well
