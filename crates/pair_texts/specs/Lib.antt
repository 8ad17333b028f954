pub mod assume_texts
pub mod check_texts
pub mod design_rows
