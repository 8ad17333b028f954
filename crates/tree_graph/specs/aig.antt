pub use Rattle.aig.specs.Making
