pub use Rattle.pair_decide.specs.cnf_encode.Encoding
