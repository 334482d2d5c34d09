pub mod Answers
pub mod Expansions
pub mod Images
pub mod Laws
pub mod Placing
pub mod Tables
