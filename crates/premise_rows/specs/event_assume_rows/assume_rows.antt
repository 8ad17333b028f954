pub mod SameInputs
