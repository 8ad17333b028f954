pub mod OneText
pub mod Itself
pub mod TextNets
pub mod check_texts
