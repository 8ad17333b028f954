pub use Rattle.pair_texts.specs.check_texts.Texts
