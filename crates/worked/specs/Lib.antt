pub mod Worked
pub mod Page
pub mod WorkedLaws
