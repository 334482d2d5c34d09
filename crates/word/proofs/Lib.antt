pub mod Numbered
pub mod Firsts
pub mod Packs
pub mod Lookups
pub mod Back
