pub mod Strokes
pub mod Lines
pub mod Programs
pub mod Sums
pub mod KeySums
