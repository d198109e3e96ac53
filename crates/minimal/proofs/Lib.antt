pub mod OneFound
