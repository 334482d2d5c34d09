pub mod Computed
pub mod Written
pub mod Asked
