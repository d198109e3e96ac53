pub mod Kind4
pub mod Kind6
pub mod Prefixes
pub mod Text
pub mod Same4
pub mod Same6
pub mod Ipv6AddressLemmas
