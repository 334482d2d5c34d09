pub mod Core
pub mod Step
pub mod Viking
pub mod CoreFits
pub mod BusFair
pub mod VikingLaws
pub mod Sums
