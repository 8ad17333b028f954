pub mod case_split
