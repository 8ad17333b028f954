pub use Rattle.pair_decide.specs.sat_search.Found
