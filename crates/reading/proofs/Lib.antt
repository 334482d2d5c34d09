pub mod Puts
pub mod Rows
pub mod Programs
pub mod Computed
pub mod Standing
pub mod KeySums
