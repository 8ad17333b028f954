pub mod FilledRows
pub mod Numbers
