pub mod compare_under
pub mod check_meaning
