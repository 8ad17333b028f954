pub mod Allowed
mod Numbers
mod Parses
mod Taken
mod Leaves
mod Known
mod TakenWords
