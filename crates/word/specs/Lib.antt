pub mod Registers
pub mod Table
pub mod Words
pub mod Laws
pub mod Arithmetic
