pub mod EventTexts
