pub mod WorkedRows
pub mod Pages
