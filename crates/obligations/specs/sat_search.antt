pub use Rattle.sat_search.specs.Found
