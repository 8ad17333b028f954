pub mod CutUnder
pub mod SequencesUnder
pub mod Meaning
