pub mod Rings
pub mod Consoles
pub mod ConsoleShown
