pub mod Lines
pub mod Scratch
pub mod Answers
