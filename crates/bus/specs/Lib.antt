pub mod Sizes
pub mod Meaning
pub mod Calls
pub mod Stores
pub mod Loans
pub mod Kept
pub mod Flats
pub mod Shown
