pub mod Machine
pub mod Board
pub mod Program
pub mod Obligation
pub mod Reading
pub mod Calls
pub mod Agreement
pub mod Rules
