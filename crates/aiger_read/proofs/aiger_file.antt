pub mod Bodies
pub mod SymbolLines
pub mod NamesFound
