pub mod Begun
mod Numbered
