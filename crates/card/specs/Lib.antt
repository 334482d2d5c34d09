pub mod Cards
pub mod CardShown
