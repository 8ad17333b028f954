pub mod one_text
