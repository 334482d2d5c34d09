pub mod Steps
pub mod Caps
pub mod Firsts
pub mod Held
pub mod Sizes
pub mod Shorts
