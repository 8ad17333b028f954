pub mod Circuits
pub mod CutDesigns
pub mod Designs
pub mod Powers
pub mod Resets
pub mod design_laws
pub mod sec_files
