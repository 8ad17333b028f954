pub mod Loaded
pub mod OneNamed
pub mod Portless
pub mod StimulusTexts
pub mod Texts
pub mod NamedNets
