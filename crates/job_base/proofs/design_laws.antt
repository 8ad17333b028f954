pub mod FlatParts
pub mod FlatMarks
pub mod FlatCycles
pub mod CutFlats
pub mod FlatOnward
pub mod FlatBack
pub mod Kept
pub mod KeptNames
