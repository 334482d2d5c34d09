pub mod Cuts
pub mod Operands
pub mod Lines
pub mod Instructions
pub mod Images
pub mod Backs
